use Rattle.items.proofs.endpoints.Laws.{device_put}
use Rattle.items.proofs.endpoints.put_device_type.Goals as goal

pub returns : goal.returns
returns c = device_put c.args.t c.args.at _ c.args.out.now _ c.plain_word-word.ensures c.put_words.ensures
