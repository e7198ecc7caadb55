use mathlib.Core.List.{map}
use Prim.Native.Nat.{◌-◌, ◌+◌}
use lib.ListN.{length}
use Rattle.items.specs.records.{instance_record}
use Rattle.items.specs.endpoints.{instance_tries}
use Rattle.items.proofs.Deep.{Seeking}
use Rattle.items.proofs.instances.count_instances.Given as goal

abbrev pub invariant-loop-end : goal.invariant-loop-end
invariant-loop-end l = Seeking (map instance_record) instance_tries l.base l.part l.c l.n

abbrev pub decreases-loop-end : goal.decreases-loop-end
decreases-loop-end l = l.base + length l.part - l.c
