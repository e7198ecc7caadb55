use Rattle.items.proofs.events.Laws.{event_first_put}
use Rattle.items.proofs.events.put_event.Goals as goal

pub returns : goal.returns
returns c = event_first_put c.args.front c.args.head c.args.at _ _ _ _ c.args.out.now _ c.doc_bit.ensures c.number.ensures.value c.first_word.ensures c.doc_word.ensures c.put_words.ensures
