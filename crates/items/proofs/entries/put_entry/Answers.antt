use Rattle.items.proofs.entries.Laws.{put_entry}
use Rattle.items.proofs.entries.put_entry.Goals as goal

pub returns : goal.returns
returns c = put_entry c.args.e c.args.at _ c.args.out.now _ c.first_word.ensures c.put_words.ensures
