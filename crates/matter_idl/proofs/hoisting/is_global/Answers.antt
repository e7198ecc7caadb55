use mathlib.Core.Path.{sym, ◌∙◌}
use mathlib.Core.Bool.{false≢true}
use borrow.Author.Tests.{eqb-true, eq-eqb}
use Rattle.matter_idl.proofs.hoisting.Laws.{hits_no_place, hits_no_kind, hits_same}
use Rattle.matter_idl.proofs.hoisting.is_global.Goals.{then-kind_at-kind, else-kind_at-kind}
use Rattle.matter_idl.proofs.hoisting.is_global.Goals as goal

pub returns-then-place_at-eq-GLOBAL : goal.returns-then-place_at-eq-GLOBAL
returns-then-place_at-eq-GLOBAL c = elim c.if-kind_at-kind.branch [
  | then-kind_at-kind w ↦ hits_same _ _ _ _ _ (sym w.place_at.ensures ∙ eqb-true _ _ (sym w.value-is ∙ c.if-place_at-eq-GLOBAL.true)) (sym c.kind_at.ensures ∙ w.if-kind_at-kind.true) (rw c.name_at.ensures at c.eq.ensures)
  | else-kind_at-kind w ↦ absurd (w.if-kind_at-kind.false (eqb-true _ _ (sym w.value-is ∙ c.if-place_at-eq-GLOBAL.true)))
]

pub returns-else-place_at-eq-GLOBAL : goal.returns-else-place_at-eq-GLOBAL
returns-else-place_at-eq-GLOBAL c = elim c.if-kind_at-kind.branch [
  | then-kind_at-kind w ↦ c.if-place_at-eq-GLOBAL.false ∙ hits_no_place _ _ _ _ _ (λ e. false≢true (sym (sym w.value-is ∙ c.if-place_at-eq-GLOBAL.false) ∙ eq-eqb _ _ (w.place_at.ensures ∙ e)))
  | else-kind_at-kind w ↦ c.if-place_at-eq-GLOBAL.false ∙ hits_no_kind _ _ _ _ _ (λ e. w.if-kind_at-kind.false (c.kind_at.ensures ∙ e))
]
