use Prim.Native.Nat.{◌-◌, ◌+◌}
use lib.ListN.{length}
use Rattle.items.proofs.attributes.Laws.{Entering}
use Rattle.items.proofs.attributes.access_entries.Given as goal

abbrev pub invariant-loop-c : goal.invariant-loop-c
invariant-loop-c l = Entering l.base l.part l.end l.c l.grants

abbrev pub decreases-loop-c : goal.decreases-loop-c
decreases-loop-c l = l.base + length l.part - l.c
