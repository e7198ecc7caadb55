use native.Mathlib.Omega.{arith}
use Rattle.lexing.proofs.utf8.Laws.{or_none, or_more}
use Rattle.lexing.proofs.utf8.or_64.Goals as goal

pub loop-j-init : goal.loop-j-init
loop-j-init c = or_none

pub loop-j-preserved : goal.loop-j-preserved
loop-j-preserved c = or_more c.loop-j.invariant

pub returns : goal.returns
returns c = record { each = λ k h. c.loop-j.invariant.each k (omega (arith, c.loop-j-test.false, h)) }
