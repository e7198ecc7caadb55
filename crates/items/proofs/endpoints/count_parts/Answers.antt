use Rattle.lexing.proofs.Losses.{passed_on}
use native.Mathlib.Omega.{arith}
use Rattle.lexing.proofs.Slicing.{tag_took}
use Rattle.items.specs.records.{part_records}
use Rattle.items.proofs.Locality.{part_tries_inside, part_tries_consumes}
use Rattle.items.proofs.RecordWords.{each_elementwise}
use Rattle.lexing.proofs.steps.Laws.{blank_at_took, rest_clear}
use Rattle.items.proofs.Deep.{seeking_start, seeking_more, seeking_closed, seeking_lost}
use Rattle.items.proofs.endpoints.Laws.{parts_unclosing, parts_nearer}
use Rattle.items.proofs.endpoints.count_parts.Goals as goal

pub loop-end-init : goal.loop-end-init
loop-end-init c = seeking_start (each_elementwise part_records) part_tries_inside part_tries_consumes _ _

pub rest_at-rest-requires : goal.rest_at-rest-requires
rest_at-rest-requires c = omega (arith, (blank_at_took c.blank_at-start.ensures).up, (blank_at_took c.blank_at-start.ensures).inside, c.loop-end.invariant.run.from)

pub returns-in-Ok : goal.returns-in-Ok
returns-in-Ok c = seeking_closed (each_elementwise part_records) part_tries_inside part_tries_consumes c.loop-end.invariant (blank_at_took c.blank_at-start.ensures) c.rest_at-rest.ensures parts_unclosing (tag_took c.rest_at-rest.ensures 125 c.in-Ok.ensures)

pub count_part-requires : goal.count_part-requires
count_part-requires c = record { part_bound = omega (arith, c.rest_at-rest.ensures.size, c.requires); part_value = rest_clear (blank_at_took c.blank_at-start.ensures) c.rest_at-rest.ensures }

pub returns-in_err-k : goal.returns-in_err-k
returns-in_err-k c = rw (passed_on c.from_residual.ensures) (seeking_lost (each_elementwise part_records) part_tries_inside part_tries_consumes c.loop-end.invariant (blank_at_took c.blank_at-start.ensures) c.rest_at-rest.ensures parts_nearer c.in_default.field-0 c.in_default.ensures c.in_err-k.ensures)

pub overflow_add-n : goal.overflow_add-n
overflow_add-n c = let s = seeking_more (each_elementwise part_records) part_tries_inside part_tries_consumes c.loop-end.invariant (blank_at_took c.blank_at-start.ensures) c.rest_at-rest.ensures parts_nearer c.in_ok-k.ensures in omega (arith, s.0.few, s.0.run.inside, c.requires)

pub loop-end-smaller : goal.loop-end-smaller
loop-end-smaller c = let s = seeking_more (each_elementwise part_records) part_tries_inside part_tries_consumes c.loop-end.invariant (blank_at_took c.blank_at-start.ensures) c.rest_at-rest.ensures parts_nearer c.in_ok-k.ensures in omega (arith, s.1, s.0.run.inside)

pub loop-end-preserved : goal.loop-end-preserved
loop-end-preserved c = let s = seeking_more (each_elementwise part_records) part_tries_inside part_tries_consumes c.loop-end.invariant (blank_at_took c.blank_at-start.ensures) c.rest_at-rest.ensures parts_nearer c.in_ok-k.ensures in s.0
