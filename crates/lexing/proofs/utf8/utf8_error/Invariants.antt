use Prim.Native.Nat.{◌-◌}
use lib.ListN.{length}
use Rattle.lexing.proofs.utf8.Laws.{Passed}
use Rattle.lexing.proofs.utf8.utf8_error.Given as goal

abbrev pub invariant-loop-i : goal.invariant-loop-i
invariant-loop-i l = Passed l.base l.part l.i

abbrev pub decreases-loop-i : goal.decreases-loop-i
decreases-loop-i l = length l.part - l.i
