use Prim.Native.Nat.{◌-◌, ◌+◌}
use lib.ListN.{length}
use Rattle.items.proofs.clusters.Laws.{MembersAt}
use Rattle.items.proofs.clusters.count_members.Given as goal

abbrev pub invariant-loop-k : goal.invariant-loop-k
invariant-loop-k l = MembersAt l.base l.part l.c l.n

abbrev pub decreases-loop-k : goal.decreases-loop-k
decreases-loop-k l = l.base + length l.part - l.c
