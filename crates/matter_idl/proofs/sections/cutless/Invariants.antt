use Prim.Native.Nat.{◌-◌}
use lib.ListN.{length}
use Rattle.matter_idl.specs.inner.sections.{Uncut}
use Rattle.matter_idl.proofs.sections.cutless.Given as goal

abbrev pub invariant-loop-i : goal.invariant-loop-i
invariant-loop-i l = Uncut l.part l.i

abbrev pub decreases-loop-i : goal.decreases-loop-i
decreases-loop-i l = length l.part - l.i
