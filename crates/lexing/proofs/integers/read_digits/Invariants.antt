use Prim.Native.Nat.{◌-◌}
use lib.ListN.{length}
use Rattle.lexing.proofs.integers.Laws.{DigitsAt}
use Rattle.lexing.proofs.integers.read_digits.Given as goal

abbrev pub invariant-loop-i : goal.invariant-loop-i
invariant-loop-i l = DigitsAt l.hex l.part l.v l.i

abbrev pub decreases-loop-i : goal.decreases-loop-i
decreases-loop-i l = length l.part - l.i
