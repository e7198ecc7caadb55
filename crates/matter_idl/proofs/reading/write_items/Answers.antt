use native.Mathlib.Omega.{arith}
use Rattle.lexing.proofs.Slicing.{blank_took}
use Rattle.lexing.proofs.steps.Laws.{rest_clear}
use Rattle.items.proofs.writing.Laws.{doc_in_limit}
use Rattle.matter_idl.proofs.reading.Laws.{hoisting_room}
use Rattle.matter_idl.proofs.reading.Marked.{after_start, mark_asks, mark_turn, hoisted_all}
use Rattle.matter_idl.proofs.reading.write_items.Goals as goal

pub loop-w-init : goal.loop-w-init
loop-w-init c = after_start _ _ _ _ _ _ c.requires.room

pub rest_at-requires : goal.rest_at-requires
rest_at-requires c = omega (arith, (c.loop-w.invariant c.requires.hoisted_front).writing.run.from, (c.loop-w.invariant c.requires.hoisted_front).writing.run.inside)

pub returns-then-start-end : goal.returns-then-start-end
returns-then-start-end c = hoisted_all c.requires.part_of c.requires.room c.loop-w.invariant c.rest_at.ensures c.whitespace0-w.ensures c.if-start-end.true

pub write_declaration-wrote-requires-clause-part_value : goal.write_declaration-wrote-requires-clause-part_value
write_declaration-wrote-requires-clause-part_value c = rest_clear (blank_took c.rest_at.ensures c.whitespace0-w.ensures) c.rest_at-in-loop-w.ensures

pub write_declaration-wrote-requires-clause-doc_fits : goal.write_declaration-wrote-requires-clause-doc_fits
write_declaration-wrote-requires-clause-doc_fits c = doc_in_limit c.whitespace0-w.ensures (omega (arith, (blank_took c.rest_at.ensures c.whitespace0-w.ensures).inside, c.requires.part_of.inside, c.args.text.fits))

pub write_declaration-wrote-requires-clause-room : goal.write_declaration-wrote-requires-clause-room
write_declaration-wrote-requires-clause-room c = hoisting_room _ _ _ _ _ c.requires.room (c.loop-w.invariant c.requires.hoisted_front) c.rest_at.ensures c.whitespace0-w.ensures c.rest_at-in-loop-w.ensures c.if-start-end.false

pub mark_item-requires : goal.mark_item-requires
mark_item-requires c = mark_asks c.requires.part_of c.requires.room c.loop-w.invariant c.rest_at.ensures c.whitespace0-w.ensures c.rest_at-in-loop-w.ensures c.write_declaration-wrote.ensures c.requires.hoisted_front

pub loop-w-smaller : goal.loop-w-smaller
loop-w-smaller c = let s = mark_turn c.requires.part_of c.requires.room c.loop-w.invariant c.rest_at.ensures c.whitespace0-w.ensures c.rest_at-in-loop-w.ensures c.write_declaration-wrote.ensures c.requires.hoisted_front c.mark_item.ensures in omega (arith, s.1, s.0.writing.run.inside)

pub loop-w-preserved : goal.loop-w-preserved
loop-w-preserved c = λ f. let s = mark_turn c.requires.part_of c.requires.room c.loop-w.invariant c.rest_at.ensures c.whitespace0-w.ensures c.rest_at-in-loop-w.ensures c.write_declaration-wrote.ensures f c.mark_item.ensures in s.0
