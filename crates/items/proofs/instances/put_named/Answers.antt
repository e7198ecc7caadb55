use Rattle.items.proofs.instances.Laws.{named_put}
use Rattle.items.proofs.instances.put_named.Goals as goal

pub returns : goal.returns
returns c = named_put _ c.args.at _ _ _ c.args.out.now _ c.plain_word.ensures c.put_word.ensures
