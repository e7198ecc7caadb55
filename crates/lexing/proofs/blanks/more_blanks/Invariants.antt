use Prim.Native.Nat.{◌-◌, ◌+◌}
use lib.ListN.{length}
use Rattle.lexing.proofs.blanks.Laws.{BlanksAt}
use Rattle.lexing.proofs.blanks.more_blanks.Given as goal

abbrev pub invariant-loop-c : goal.invariant-loop-c
invariant-loop-c l = BlanksAt l.base l.part l.b

abbrev pub decreases-loop-c : goal.decreases-loop-c
decreases-loop-c l = l.base + length l.part - l.b.next
