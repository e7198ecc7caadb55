use Rattle.lexing.proofs.unescaping.Laws.{Counting}
use lib.ListN.{length}
use Prim.Native.Nat.{◌-◌}
use Rattle.lexing.proofs.unescaping.size_of.Given as goal

abbrev pub invariant-loop-at : goal.invariant-loop-at
invariant-loop-at l = Counting l.part l.at l.n

abbrev pub decreases-loop-at : goal.decreases-loop-at
decreases-loop-at l = length l.part - l.at
