use mathlib.Core.Path.{refl, sym, ◌∙◌}
use mathlib.Core.Bool.{true, false}
use native.Mathlib.Omega.{arith}
use Rattle.matter_idl.proofs.filter.Laws.{grown_same}
use Rattle.matter_idl.proofs.hoisting.Laws.{unmarked_placed}
use Rattle.matter_idl.proofs.hoisting.Walk.{name_in}
use Rattle.matter_idl.proofs.hoisting.Marking.{mark_there, mark_room, mark_held, mark_elsewhere, mark_kept, mark_free, mark_set}
use Rattle.matter_idl.proofs.hoisting.mark_record.Goals as goal

pub place_at-requires : goal.place_at-requires
place_at-requires c = mark_room _ c.args.text.fits c.requires

pub id_hash-requires : goal.id_hash-requires
id_hash-requires c = record { at_in_bounds = mark_room _ c.args.text.fits c.requires; name_inside = name_in c.args.text.fits (mark_there _ c.args.text.fits c.requires) }

pub returns-then-place_at-eq-GLOBAL : goal.returns-then-place_at-eq-GLOBAL
returns-then-place_at-eq-GLOBAL c = λ m. mark_kept _ c.args.text.fits m (unmarked_placed _ _ _ (λ e. omega (arith, e, c.if-place_at-eq-GLOBAL.true, c.place_at.ensures))) c.add.ensures.grown refl (λ _. mark_held _ c.args.text.fits m c.id_hash.ensures c.add.ensures.holds)

pub is_unmarked-requires : goal.is_unmarked-requires
is_unmarked-requires c = mark_room _ c.args.text.fits c.requires

pub returns-then-not-is_unmarked : goal.returns-then-not-is_unmarked
returns-then-not-is_unmarked c = λ m. mark_kept _ c.args.text.fits m c.is_unmarked.ensures (grown_same _) c.if-not-is_unmarked.true (mark_elsewhere _ c.args.text.fits m (λ e. c.if-place_at-eq-GLOBAL.false (c.place_at.ensures ∙ e)))

pub id_hash-h-requires : goal.id_hash-h-requires
id_hash-h-requires c = record { at_in_bounds = mark_room _ c.args.text.fits c.requires; name_inside = name_in c.args.text.fits (mark_there _ c.args.text.fits c.requires) }

pub is_known-requires-clause-at_in_bounds : goal.is_known-requires-clause-at_in_bounds
is_known-requires-clause-at_in_bounds c = mark_room _ c.args.text.fits c.requires

pub is_known-requires-clause-name_inside : goal.is_known-requires-clause-name_inside
is_known-requires-clause-name_inside c = name_in c.args.text.fits (mark_there _ c.args.text.fits c.requires)

pub set_place-requires-clause-at_in_bounds : goal.set_place-requires-clause-at_in_bounds
set_place-requires-clause-at_in_bounds c = mark_room _ c.args.text.fits c.requires

pub set_place-requires-clause-at_value : goal.set_place-requires-clause-at_value
set_place-requires-clause-at_value c = mark_free _ c.args.text.fits c.requires c.is_unmarked.ensures (grown_same _) c.if-not-is_unmarked.false

pub returns-then-is_known : goal.returns-then-is_known
returns-then-is_known c = λ m. mark_set _ c.args.text.fits m c.is_unmarked.ensures (grown_same _) c.if-not-is_unmarked.false true (sym c.if-is_known.true ∙ c.is_known.ensures m.before m.filtered) c.set_place.ensures (λ e. absurd (omega arith))

pub set_place-requires-2-clause-at_in_bounds : goal.set_place-requires-2-clause-at_in_bounds
set_place-requires-2-clause-at_in_bounds c = mark_room _ c.args.text.fits c.requires

pub set_place-requires-2-clause-at_value : goal.set_place-requires-2-clause-at_value
set_place-requires-2-clause-at_value c = mark_free _ c.args.text.fits c.requires c.is_unmarked.ensures (grown_same _) c.if-not-is_unmarked.false

pub returns : goal.returns
returns c = λ m. mark_set _ c.args.text.fits m c.is_unmarked.ensures c.add-2.ensures.grown c.if-not-is_unmarked.false false (sym c.if-is_known.false ∙ c.is_known.ensures m.before m.filtered) c.set_place-2.ensures (λ _. mark_held _ c.args.text.fits m c.id_hash-h.ensures c.add-2.ensures.holds)
