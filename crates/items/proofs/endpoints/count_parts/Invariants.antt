use Prim.Native.Nat.{◌-◌, ◌+◌}
use lib.ListN.{length}
use Rattle.lexing.specs.buffers.{each}
use Rattle.items.specs.records.{part_records}
use Rattle.items.specs.endpoints.{part_tries}
use Rattle.items.proofs.Deep.{Seeking}
use Rattle.items.proofs.endpoints.count_parts.Given as goal

abbrev pub invariant-loop-end : goal.invariant-loop-end
invariant-loop-end l = Seeking (each part_records) part_tries l.base l.part l.c l.n

abbrev pub decreases-loop-end : goal.decreases-loop-end
decreases-loop-end l = l.base + length l.part - l.c
