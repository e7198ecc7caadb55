use Prim.Native.Nat.{◌-◌}
use Rattle.matter_idl.proofs.hoisting.Marking.{MarkingItem}
use Rattle.matter_idl.proofs.hoisting.mark_item.Given as goal

abbrev pub invariant-loop-at : goal.invariant-loop-at
invariant-loop-at l = MarkingItem l.text.bytes.now l.initial.out l.initial.filter l.start l.end l.out l.filter l.at

abbrev pub decreases-loop-at : goal.decreases-loop-at
decreases-loop-at l = l.end - l.at
