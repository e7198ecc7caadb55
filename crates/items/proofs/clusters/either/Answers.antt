use Rattle.items.proofs.clusters.Whole.{either_first, either_second}
use Rattle.items.proofs.clusters.either.Goals as goal

pub returns-in-Ok : goal.returns-in-Ok
returns-in-Ok c = rw c.in-Ok.is (either_first _ _ _ _ c.in-Ok.ensures)

pub returns : goal.returns
returns c = either_second _ _ _ _ c.keyword.result _ c.in_default.ensures c.keyword.ensures
