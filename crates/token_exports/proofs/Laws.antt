-- What the answers of lexing's readers give an export.
use Prim.Native.Nat.{ℕ}
use mathlib.Core.Path.{◌≡◌, refl, sym, ◌∙◌, ap, subst}
use mathlib.Core.Bool.{Bool, true, false}
use mathlib.Core.List.{List}
use Rattle.lexing.specs.integers.{u64_max}
use Rattle.lexing.specs.words.{is_key, keyword}
use Rattle.std.specs.Prelude.{Ok, Err}
use Rattle.lexing.specs.answers.{word_reply, Lost}
use Rattle.lexing.specs.declared.answers.LostBy.TheVariants.{Fail, Stop}
use Rattle.token_exports.specs.exports.{following, after_keyword}

module _ (k u : List ℕ) {t : Bool} (e : t ≡ is_key k) where
  keyed : {n : ℕ} → t ≡ true → n ≡ following (keyword k 0 u) → n ≡ after_keyword k u
  unfolding after_keyword
  keyed {n} h m = subst (λ (x : Bool). n ≡ elim x [ true ↦ following (keyword k 0 u) | false ↦ u64_max ]) (sym h ∙ e) m

  pub not_keyed : t ≡ false → u64_max ≡ after_keyword k u
  unfolding after_keyword
  not_keyed h = subst (λ (x : Bool). u64_max ≡ elim x [ true ↦ following (keyword k 0 u) | false ↦ u64_max ]) (sym h ∙ e) refl

  pub keyword_there : {c : ℕ} → t ≡ true → word_reply (Ok c) 0 u ≡ keyword k 0 u → c ≡ after_keyword k u
  unfolding following
  keyword_there h m = keyed h (ap following m)

  pub keyword_none : (l : Lost) → t ≡ true → word_reply (Err l) 0 u ≡ keyword k 0 u → u64_max ≡ after_keyword k u
  unfolding following
  keyword_none (Fail p) h m = keyed h (ap following m)
  keyword_none (Stop n p) h m = keyed h (ap following m)
