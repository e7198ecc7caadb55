use Prim.Native.Nat.{◌-◌, ◌+◌}
use lib.ListN.{length}
use Rattle.matter_idl.proofs.reading.Laws.{CountingItems}
use Rattle.matter_idl.proofs.reading.count_items.Given as goal

abbrev pub invariant-loop-base : goal.invariant-loop-base
invariant-loop-base l = CountingItems l.base l.part l.c l.n

abbrev pub decreases-loop-base : goal.decreases-loop-base
decreases-loop-base l = l.base + length l.part - l.c
