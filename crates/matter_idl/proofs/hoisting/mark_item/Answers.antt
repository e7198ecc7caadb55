use mathlib.Core.Path.{◌∙◌, ap}
use native.Mathlib.Omega.{arith}
use Rattle.items.specs.layout.{layout, words_of_kind}
use Rattle.matter_idl.proofs.hoisting.Marking.{marking_start, marking_end, marking_at, marking_inside, marking_more}
use Rattle.matter_idl.proofs.hoisting.mark_item.Goals as goal

pub loop-at-init : goal.loop-at-init
loop-at-init c = λ u. marking_start _ u

pub mark_at-kind-requires : goal.mark_at-kind-requires
mark_at-kind-requires c = marking_at _ c.requires (c.loop-at.invariant c.requires) c.loop-at-test.true c.args.text.fits

pub overflow_mul-at : goal.overflow_mul-at
overflow_mul-at c = omega (arith, (marking_inside _ c.requires (c.loop-at.invariant c.requires) c.loop-at-test.true c.args.text.fits (c.words_of.ensures ∙ ap (words_of_kind layout) c.mark_at-kind.ensures.value)).1)

pub overflow_add-at : goal.overflow_add-at
overflow_add-at c = omega (arith, (marking_inside _ c.requires (c.loop-at.invariant c.requires) c.loop-at-test.true c.args.text.fits (c.words_of.ensures ∙ ap (words_of_kind layout) c.mark_at-kind.ensures.value)).1)

pub loop-at-smaller : goal.loop-at-smaller
loop-at-smaller c = let h = marking_inside _ c.requires (c.loop-at.invariant c.requires) c.loop-at-test.true c.args.text.fits (c.words_of.ensures ∙ ap (words_of_kind layout) c.mark_at-kind.ensures.value) in omega (arith, h.0, h.1)

pub loop-at-preserved : goal.loop-at-preserved
loop-at-preserved c = λ u. marking_more _ u (c.loop-at.invariant u) c.loop-at-test.true c.args.text.fits c.mark_at-kind.ensures.marked_to (c.words_of.ensures ∙ ap (words_of_kind layout) c.mark_at-kind.ensures.value)

pub returns : goal.returns
returns c = λ u. marking_end _ u (c.loop-at.invariant u) c.loop-at-test.false
