use Prim.Native.Nat.{◌-◌}
use lib.ListN.{length}
use Rattle.lexing.proofs.blanks.Laws.{UntilAt}
use Rattle.lexing.proofs.blanks.comment_end.Given as goal

abbrev pub invariant-loop-i : goal.invariant-loop-i
invariant-loop-i l = UntilAt l.part l.i

abbrev pub decreases-loop-i : goal.decreases-loop-i
decreases-loop-i l = length l.part - l.i
