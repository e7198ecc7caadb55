use native.Mathlib.Omega.{arith}
use Rattle.lexing.proofs.Slicing.{tag_took}
use Rattle.lexing.proofs.steps.Laws.{blank_at_took}
use Rattle.items.proofs.annotations.Laws.{annotations_repeat, in_brackets, bracket_there, annotations_room, annotations_written}
use Rattle.items.proofs.annotations.write_entry_annotations.Goals as goal

pub rest_at-requires : goal.rest_at-requires
rest_at-requires c = let t = (blank_at_took c.blank_at-c1.ensures) in omega (arith, t.up, t.inside)

pub returns-in_default : goal.returns-in_default
returns-in_default c = absurd (bracket_there c.rest_at.ensures (in_brackets (blank_at_took c.blank_at-c1.ensures) c.requires.nonzero) _ c.in_default.ensures)

pub rest_at-requires-2 : goal.rest_at-requires-2
rest_at-requires-2 c = let t = (tag_took c.rest_at.ensures 91 c.in-Ok.ensures) in omega (arith, (blank_at_took c.blank_at-c1.ensures).up, t.up, t.inside)

pub write_run-requires-clause-repeats : goal.write_run-requires-clause-repeats
write_run-requires-clause-repeats c = annotations_repeat

pub write_run-requires-clause-room : goal.write_run-requires-clause-room
write_run-requires-clause-room c = (annotations_room (in_brackets (blank_at_took c.blank_at-c1.ensures) c.requires.nonzero) (tag_took c.rest_at.ensures 91 c.in-Ok.ensures) c.rest_at-2.ensures c.requires.part_in_bounds)

pub returns : goal.returns
returns c = annotations_written (in_brackets (blank_at_took c.blank_at-c1.ensures) c.requires.nonzero) (tag_took c.rest_at.ensures 91 c.in-Ok.ensures) c.rest_at-2.ensures c.write_run.ensures
