use native.Mathlib.Omega.{arith}
use Rattle.lexing.proofs.Locality.{chain_many0}
use Rattle.lexing.proofs.Slicing.{rest_self, tag_took, walks}
use Rattle.lexing.proofs.steps.Laws.{tag_after_took, skips_lost}
use Rattle.items.proofs.Braces.{braces_open, braces_room, braces_close, braces_written}
use Rattle.items.proofs.writing.Laws.{written_took}
use Rattle.items.proofs.runs.write_braced.Goals as goal

pub returns-in_default : goal.returns-in_default
returns-in_default g c = absurd (braces_open _ c.requires.room _ c.in_default.ensures)

pub rest_at-requires : goal.rest_at-requires
rest_at-requires g c = omega (arith, (tag_took (rest_self _ _) 123 c.in-Ok.ensures).up, (tag_took (rest_self _ _) 123 c.in-Ok.ensures).inside)

pub write_run-run-requires-clause-room : goal.write_run-run-requires-clause-room
write_run-run-requires-clause-room g c = braces_room _ c.requires.room (walks (chain_many0 c.requires.repeats.chain)) (tag_took (rest_self _ _) 123 c.in-Ok.ensures) c.rest_at.ensures

pub tag_after-requires : goal.tag_after-requires
tag_after-requires g c = let t = written_took (walks (chain_many0 c.requires.repeats.chain)) c.rest_at.ensures c.write_run-run.ensures in omega (arith, t.up, t.inside, c.rest_at.ensures.from, c.requires.part_bound)

pub returns-in_default-tag_after : goal.returns-in_default-tag_after
returns-in_default-tag_after g c = absurd (braces_close _ c.requires.room (walks (chain_many0 c.requires.repeats.chain)) (tag_took (rest_self _ _) 123 c.in-Ok.ensures) c.rest_at.ensures c.write_run-run.ensures _ (skips_lost c.in_default-tag_after.ensures))

pub returns : goal.returns
returns g c = braces_written _ c.requires.room (walks (chain_many0 c.requires.repeats.chain)) (tag_took (rest_self _ _) 123 c.in-Ok.ensures) c.rest_at.ensures c.write_run-run.ensures (tag_after_took 125 c.in-Ok-tag_after.ensures)
