use native.Mathlib.Omega.{arith}
use Rattle.lexing.proofs.Slicing.{blank_took, tag_took}
use Rattle.lexing.proofs.steps.Laws.{rest_clear}
use Rattle.items.proofs.writing.Laws.{doc_in_limit}
use Rattle.items.proofs.clusters.Whole.{placing_start, placing_room, placing_more, placing_ends}
use Rattle.items.proofs.clusters.write_members.Goals as goal

pub loop-next-init : goal.loop-next-init
loop-next-init c = placing_start _ _ _ _ c.requires.room

pub returns-in-Ok : goal.returns-in-Ok
returns-in-Ok c = placing_ends _ _ _ _ c.requires.room c.loop-next.invariant (blank_took c.rest_at.ensures c.whitespace0-w.ensures) (tag_took c.rest_at-in-loop-next.ensures 125 c.in-Ok.ensures)

pub write_member-wrote-requires-clause-part_value : goal.write_member-wrote-requires-clause-part_value
write_member-wrote-requires-clause-part_value c = rest_clear (blank_took c.rest_at.ensures c.whitespace0-w.ensures) c.rest_at-in-loop-next-2.ensures

pub write_member-wrote-requires-clause-doc_fits : goal.write_member-wrote-requires-clause-doc_fits
write_member-wrote-requires-clause-doc_fits c = doc_in_limit c.whitespace0-w.ensures (omega (arith, (blank_took c.rest_at.ensures c.whitespace0-w.ensures).inside, c.requires.part_bound))

pub write_member-wrote-requires-clause-room : goal.write_member-wrote-requires-clause-room
write_member-wrote-requires-clause-room c = placing_room _ _ _ _ c.requires.room c.loop-next.invariant (blank_took c.rest_at.ensures c.whitespace0-w.ensures) c.rest_at-in-loop-next-2.ensures _ c.rest_at-in-loop-next.ensures c.in_default.ensures

pub loop-next-smaller : goal.loop-next-smaller
loop-next-smaller c = let s = placing_more _ _ _ _ c.requires.room c.loop-next.invariant (blank_took c.rest_at.ensures c.whitespace0-w.ensures) c.rest_at-in-loop-next-2.ensures c.write_member-wrote.ensures in omega (arith, s.1.0, s.1.1)

pub loop-next-preserved : goal.loop-next-preserved
loop-next-preserved c = let s = placing_more _ _ _ _ c.requires.room c.loop-next.invariant (blank_took c.rest_at.ensures c.whitespace0-w.ensures) c.rest_at-in-loop-next-2.ensures c.write_member-wrote.ensures in s.0
