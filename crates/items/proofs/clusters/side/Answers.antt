use Rattle.lexing.proofs.Losses.{passed_on}
use native.Mathlib.Omega.{arith}
use Rattle.items.proofs.clusters.Whole.{side_word, side_not, side_is}
use Rattle.items.proofs.clusters.side.Goals as goal

pub returns-in_err-c : goal.returns-in_err-c
returns-in_err-c c = rw (passed_on c.from_residual.ensures) (side_not c.in_err-c.ensures)

pub gap_at-requires : goal.gap_at-requires
gap_at-requires c = let t = side_word c.in_ok-c.ensures in omega (arith, t.up, t.inside, c.requires)

pub returns : goal.returns
returns c = side_is c.in_ok-c.ensures c.gap_at.result c.gap_at.ensures
