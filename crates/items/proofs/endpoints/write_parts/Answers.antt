use native.Mathlib.Omega.{arith}
use Rattle.lexing.proofs.Slicing.{tag_took}
use Rattle.items.specs.records.{part_records}
use Rattle.items.proofs.Locality.{part_tries_inside, part_tries_consumes}
use Rattle.items.proofs.RecordWords.{each_elementwise}
use Rattle.lexing.proofs.steps.Laws.{blank_at_took, rest_clear}
use Rattle.items.proofs.Placed.{placing_start, placing_room, placing_more, placing_ends}
use Rattle.items.proofs.endpoints.Laws.{parts_unclosing, parts_nearer}
use Rattle.items.proofs.endpoints.write_parts.Goals as goal

pub loop-end-init : goal.loop-end-init
loop-end-init c = placing_start (each_elementwise part_records) part_tries_inside part_tries_consumes _ _ _ _ c.requires.room

pub rest_at-rest-requires : goal.rest_at-rest-requires
rest_at-rest-requires c = omega (arith, (blank_at_took c.blank_at-start.ensures).up, (blank_at_took c.blank_at-start.ensures).inside, c.loop-end.invariant.run.from)

pub returns-in-Ok : goal.returns-in-Ok
returns-in-Ok c = placing_ends (each_elementwise part_records) part_tries_inside part_tries_consumes _ _ _ _ c.requires.room c.loop-end.invariant (blank_at_took c.blank_at-start.ensures) c.rest_at-rest.ensures parts_unclosing (tag_took c.rest_at-rest.ensures 125 c.in-Ok.ensures)

pub write_part-wrote-requires : goal.write_part-wrote-requires
write_part-wrote-requires c = record { part_bound = omega (arith, c.rest_at-rest.ensures.size, c.requires.part_bound); part_value = rest_clear (blank_at_took c.blank_at-start.ensures) c.rest_at-rest.ensures; room = placing_room (each_elementwise part_records) part_tries_inside part_tries_consumes _ _ _ _ c.requires.room c.loop-end.invariant (blank_at_took c.blank_at-start.ensures) c.rest_at-rest.ensures parts_nearer c.in_default.field-0 c.in_default.ensures }

pub loop-end-smaller : goal.loop-end-smaller
loop-end-smaller c = let s = placing_more (each_elementwise part_records) part_tries_inside part_tries_consumes _ _ _ _ c.requires.room c.loop-end.invariant (blank_at_took c.blank_at-start.ensures) c.rest_at-rest.ensures parts_nearer c.write_part-wrote.ensures in omega (arith, s.1, s.0.run.inside)

pub loop-end-preserved : goal.loop-end-preserved
loop-end-preserved c = let s = placing_more (each_elementwise part_records) part_tries_inside part_tries_consumes _ _ _ _ c.requires.room c.loop-end.invariant (blank_at_took c.blank_at-start.ensures) c.rest_at-rest.ensures parts_nearer c.write_part-wrote.ensures in s.0
