use native.Mathlib.Omega.{arith}
use lib.Count.{trailing_le}
use Rattle.lexing.proofs.Scans.{runs_from}
use Rattle.lexing.proofs.words.Laws.{letters_some, letters_all}
use Rattle.lexing.proofs.words.letters.Goals as goal

pub loop-i-init : goal.loop-i-init
loop-i-init c = runs_from _ _ _ c.requires

pub overflow_cast-result : goal.overflow_cast-result
overflow_cast-result c = omega (arith, trailing_le 64 c.non_letters-m.result)

pub overflow_add-result : goal.overflow_add-result
overflow_add-result c = omega (arith, trailing_le 64 c.non_letters-m.result)

pub returns-then-m-ne0 : goal.returns-then-m-ne0
returns-then-m-ne0 c = let h = letters_some _ _ _ _ (λ j. (c.shared_slice_known-1.given j).fits) c.eight_at.ensures c.non_letters-m.ensures (omega (arith, c.loop-i-test.true)) c.loop-i.invariant in (h.inside, h.left)

pub loop-i-preserved : goal.loop-i-preserved
loop-i-preserved c = letters_all _ _ _ _ (λ j. (c.shared_slice_known-1.given j).fits) c.eight_at.ensures c.non_letters-m.ensures (omega (arith, c.loop-i-test.true)) c.loop-i.invariant c.if-m-ne0.false
