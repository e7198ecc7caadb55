use native.Mathlib.Omega.{arith}
use Rattle.lexing.proofs.Slicing.{tag_took}
use Rattle.items.specs.records.{instance_record}
use Rattle.items.proofs.Locality.{instance_tries_inside, instance_tries_consumes}
use Rattle.items.proofs.RecordWords.{map_elementwise}
use Rattle.lexing.proofs.steps.Laws.{blank_at_took}
use Rattle.items.proofs.Placed.{placing_start, placing_room, placing_more, placing_ends}
use Rattle.items.proofs.instances.Laws.{instances_unclosing, instances_nearer}
use Rattle.items.proofs.instances.write_instances.Goals as goal

pub loop-end-init : goal.loop-end-init
loop-end-init c = placing_start (map_elementwise instance_record) instance_tries_inside instance_tries_consumes _ _ _ _ c.requires.room

pub rest_at-rest-requires : goal.rest_at-rest-requires
rest_at-rest-requires c = omega (arith, (blank_at_took c.blank_at-start.ensures).up, (blank_at_took c.blank_at-start.ensures).inside, c.loop-end.invariant.run.from)

pub returns-in-Ok : goal.returns-in-Ok
returns-in-Ok c = placing_ends (map_elementwise instance_record) instance_tries_inside instance_tries_consumes _ _ _ _ c.requires.room c.loop-end.invariant (blank_at_took c.blank_at-start.ensures) c.rest_at-rest.ensures instances_unclosing (tag_took c.rest_at-rest.ensures 125 c.in-Ok.ensures)

pub write_instance-wrote-requires : goal.write_instance-wrote-requires
write_instance-wrote-requires c = record { part_bound = omega (arith, c.rest_at-rest.ensures.size, c.requires.part_bound); room = placing_room (map_elementwise instance_record) instance_tries_inside instance_tries_consumes _ _ _ _ c.requires.room c.loop-end.invariant (blank_at_took c.blank_at-start.ensures) c.rest_at-rest.ensures instances_nearer c.in_default.field-0 c.in_default.ensures }

pub loop-end-smaller : goal.loop-end-smaller
loop-end-smaller c = let s = placing_more (map_elementwise instance_record) instance_tries_inside instance_tries_consumes _ _ _ _ c.requires.room c.loop-end.invariant (blank_at_took c.blank_at-start.ensures) c.rest_at-rest.ensures instances_nearer c.write_instance-wrote.ensures in omega (arith, s.1, s.0.run.inside)

pub loop-end-preserved : goal.loop-end-preserved
loop-end-preserved c = let s = placing_more (map_elementwise instance_record) instance_tries_inside instance_tries_consumes _ _ _ _ c.requires.room c.loop-end.invariant (blank_at_took c.blank_at-start.ensures) c.rest_at-rest.ensures instances_nearer c.write_instance-wrote.ensures in s.0
