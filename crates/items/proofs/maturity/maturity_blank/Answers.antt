use Rattle.items.proofs.maturity.Laws.{blanked_is, maturity_took}
use native.Mathlib.Omega.{arith}
use Rattle.lexing.proofs.Slicing.{rest_self}
use Rattle.lexing.proofs.steps.Laws.{blank_at_took}
use Rattle.items.proofs.maturity.maturity_blank.Goals as goal

pub blank_at-next-requires : goal.blank_at-next-requires
blank_at-next-requires c = let t = maturity_took (rest_self _ _) c.api_maturity-maturity.ensures in omega (arith, t.up, t.inside, c.requires)

pub returns : goal.returns
returns c = blanked_is (maturity_took (rest_self _ _) c.api_maturity-maturity.ensures) (blank_at_took c.blank_at-next.ensures)
