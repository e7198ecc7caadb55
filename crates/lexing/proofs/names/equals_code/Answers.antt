use Rattle.lexing.proofs.Losses.{passed_on}
use native.Mathlib.Omega.{arith}
use Rattle.lexing.proofs.Slicing.{fall, rest_from, tag_took}
use Rattle.std.specs.Prelude.{Ok, Err}
use Rattle.lexing.proofs.names.Laws.{integer_on, number_after}
use Rattle.lexing.proofs.names.equals_code.Goals as goal

pub rest_at-requires : goal.rest_at-requires
rest_at-requires c = c.requires.0

pub tag-requires : goal.tag-requires
tag-requires c = omega (arith, c.rest_at.ensures.size, c.requires.1)

pub returns-in_err-c1 : goal.returns-in_err-c1
returns-in_err-c1 c = rw (passed_on c.from_residual.ensures) (record { at = (rest_from _ _ _ c.requires.0.0 c.requires.0.1); reads = fall _ _ _ c.rest_at.ensures c.in_err-c1.ensures })

pub integer_after-requires : goal.integer_after-requires
integer_after-requires c = let t = (tag_took c.rest_at.ensures 61 c.in_ok-c1.ensures) in omega (arith, t.up, t.inside, c.requires)

pub returns-in_err-v : goal.returns-in_err-v
returns-in_err-v c = rw (passed_on c.from_residual-in_err-v.ensures) (number_after integer_on (Err _) (rest_from _ _ _ c.requires.0.0 c.requires.0.1) (tag_took c.rest_at.ensures 61 c.in_ok-c1.ensures) c.in_err-v.ensures)

pub returns : goal.returns
returns c = number_after integer_on (Ok _) (rest_from _ _ _ c.requires.0.0 c.requires.0.1) (tag_took c.rest_at.ensures 61 c.in_ok-c1.ensures) c.in_ok-v.ensures
