use Prim.Native.Nat.{◌-◌}
use Rattle.lexing.specs.inner.word_sets.{LowerAt}
use Rattle.lexing.proofs.word_sets.lower_run.Given as goal

abbrev pub invariant-loop-i : goal.invariant-loop-i
invariant-loop-i l = LowerAt l.part l.n l.i

abbrev pub decreases-loop-i : goal.decreases-loop-i
decreases-loop-i l = l.n - l.i
