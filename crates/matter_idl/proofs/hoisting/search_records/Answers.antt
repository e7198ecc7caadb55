use native.Mathlib.Omega.{arith}
use Rattle.matter_idl.proofs.hoisting.Walk.{name_in}
use Rattle.matter_idl.proofs.hoisting.Laws.{held_end, held_room, held_there, held_inside, held_yes, held_more}
use Rattle.matter_idl.proofs.hoisting.search_records.Goals as goal

pub is_global-requires : goal.is_global-requires
is_global-requires c = record { at_in_bounds = held_room _ _ _ c.requires (c.loop-at.invariant c.requires) c.loop-at-test.true; name_inside = name_in c.args.text.fits (held_there _ _ _ c.requires (c.loop-at.invariant c.requires) c.loop-at-test.true c.args.text.fits) }

pub returns-then-is_global : goal.returns-then-is_global
returns-then-is_global c = λ x. held_yes _ _ _ x (c.loop-at.invariant x) c.loop-at-test.true c.args.text.fits c.is_global.ensures c.if-is_global.true

pub words_at-requires-clause-at_in_bounds : goal.words_at-requires-clause-at_in_bounds
words_at-requires-clause-at_in_bounds c = held_room _ _ _ c.requires (c.loop-at.invariant c.requires) c.loop-at-test.true

pub overflow_mul-at : goal.overflow_mul-at
overflow_mul-at c = omega (arith, (held_inside _ _ _ c.requires (c.loop-at.invariant c.requires) c.loop-at-test.true c.args.text.fits c.words_at.ensures).1)

pub overflow_add-at : goal.overflow_add-at
overflow_add-at c = omega (arith, (held_inside _ _ _ c.requires (c.loop-at.invariant c.requires) c.loop-at-test.true c.args.text.fits c.words_at.ensures).1)

pub loop-at-smaller : goal.loop-at-smaller
loop-at-smaller c = let h = held_inside _ _ _ c.requires (c.loop-at.invariant c.requires) c.loop-at-test.true c.args.text.fits c.words_at.ensures in omega (arith, h.0, h.1)

pub loop-at-preserved : goal.loop-at-preserved
loop-at-preserved c = λ x. held_more _ _ _ x (c.loop-at.invariant x) c.loop-at-test.true c.args.text.fits c.is_global.ensures c.if-is_global.false c.words_at.ensures

pub returns : goal.returns
returns c = λ x. held_end _ _ _ x (c.loop-at.invariant x) c.loop-at-test.false
