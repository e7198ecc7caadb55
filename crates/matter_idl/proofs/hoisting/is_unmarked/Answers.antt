use native.Mathlib.Omega.{arith}
use mathlib.Core.Path.{◌≡◌, refl, sym, ◌∙◌}
use Rattle.matter_idl.specs.inner.hoisting.{flags_shared}
use Rattle.matter_idl.proofs.hoisting.Laws.{unmarked_placed, unmarked_of, unmarked_choice, unmarked_other}
use Rattle.matter_idl.proofs.hoisting.is_unmarked.Goals as goal

pub returns-then-place_at-ne0 : goal.returns-then-place_at-ne0
returns-then-place_at-ne0 c = unmarked_placed _ _ _ (λ e. c.if-place_at-ne0.true (c.place_at.ensures ∙ e))

pub returns-in-5 : goal.returns-in-5
unfolding flags_shared
returns-in-5 c = unmarked_of _ _ _ (sym c.place_at.ensures ∙ c.if-place_at-ne0.false) ((sym c.kind_at.ensures) ∙ c.in-5.is) (rw c.flags_at.ensures refl)

pub returns-in-2 : goal.returns-in-2
returns-in-2 c = unmarked_choice _ _ _ (sym c.place_at.ensures ∙ c.if-place_at-ne0.false) (omega (arith, c.in-2, c.kind_at.ensures)) (omega (arith, c.in-2, c.kind_at.ensures)) (rw c.flags_at-in-2.ensures refl)

pub returns-in_default : goal.returns-in_default
returns-in_default c = let n5 : c.kind_at.result ≡ 5 → ⊥ = omega arith in let n2 : c.kind_at.result ≡ 2 → ⊥ = omega arith in let n3 : c.kind_at.result ≡ 3 → ⊥ = omega arith in unmarked_other _ _ _ (sym c.place_at.ensures ∙ c.if-place_at-ne0.false) (λ e. n5 (c.kind_at.ensures ∙ e)) (λ e. n2 (c.kind_at.ensures ∙ e)) (λ e. n3 (c.kind_at.ensures ∙ e))

pub returns-in_default-2 : goal.returns-in_default-2
returns-in_default-2 c = let n5 : c.kind_at.result ≡ 5 → ⊥ = omega arith in let n2 : c.kind_at.result ≡ 2 → ⊥ = omega arith in let n3 : c.kind_at.result ≡ 3 → ⊥ = omega arith in unmarked_other _ _ _ (sym c.place_at.ensures ∙ c.if-place_at-ne0.false) (λ e. n5 (c.kind_at.ensures ∙ e)) (λ e. n2 (c.kind_at.ensures ∙ e)) (λ e. n3 (c.kind_at.ensures ∙ e))
