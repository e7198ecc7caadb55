use Prim.Native.Nat.{◌+◌, ◌-◌}
use lib.ListN.{length}
use Rattle.matter_idl.proofs.reading.Marked.{HoistingAfter}
use Rattle.matter_idl.proofs.reading.write_items.Given as goal

abbrev pub invariant-loop-w : goal.invariant-loop-w
invariant-loop-w l = HoistingAfter l.text.bytes.now l.base l.part l.c l.at l.initial.out l.initial.filter l.out l.filter l.to

abbrev pub decreases-loop-w : goal.decreases-loop-w
decreases-loop-w l = l.base + length l.part - l.c
