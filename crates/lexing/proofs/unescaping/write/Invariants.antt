use Rattle.lexing.proofs.unescaping.Laws.{Writing}
use lib.ListN.{length}
use Prim.Native.Nat.{◌-◌}
use Rattle.lexing.proofs.unescaping.write.Given as goal

abbrev pub invariant-loop-at : goal.invariant-loop-at
invariant-loop-at l = Writing l.part l.initial.output l.at l.output l.n

abbrev pub decreases-loop-at : goal.decreases-loop-at
decreases-loop-at l = length l.part - l.at
