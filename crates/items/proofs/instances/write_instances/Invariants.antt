use mathlib.Core.List.{map}
use Prim.Native.Nat.{◌-◌, ◌+◌}
use lib.ListN.{length}
use Rattle.items.specs.records.{instance_record}
use Rattle.items.specs.endpoints.{instance_tries}
use Rattle.items.proofs.Placed.{Placing}
use Rattle.items.proofs.instances.write_instances.Given as goal

abbrev pub invariant-loop-end : goal.invariant-loop-end
invariant-loop-end l = Placing (map instance_record) instance_tries l.base l.part l.c l.at l.initial.out l.out l.to

abbrev pub decreases-loop-end : goal.decreases-loop-end
decreases-loop-end l = l.base + length l.part - l.c
