use Prim.Native.Nat.{◌-◌, ◌+◌}
use lib.ListN.{length}
use Rattle.items.proofs.clusters.Whole.{MembersPlacing}
use Rattle.items.proofs.clusters.write_members.Given as goal

abbrev pub invariant-loop-next : goal.invariant-loop-next
invariant-loop-next l = MembersPlacing l.base l.part l.c l.at l.initial.out l.out l.to l.revision

abbrev pub decreases-loop-next : goal.decreases-loop-next
decreases-loop-next l = l.base + length l.part - l.c
