-- Which keywords the letters of a first word select: one that has another byte at the same place is not there.
use mathlib.Core.Path.{◌≡◌, refl, sym, ◌∙◌}
use mathlib.Core.Bool.{Bool, true, false, not, ◌&&◌, ◌||◌, true≢false, false≢true}
use mathlib.Core.List.{List, [], ◌∷◌}
use Prim.Native.Nat.{ℕ}
use lib.Dec.{eqb, ltb}
use lib.ListN.{length, get_or}
use borrow.Author.Tests.{eqb-true, eq-eqb, not-true, ltb-true}
use Rattle.lexing.specs.bytes.{lower}
use Rattle.lexing.specs.reply.{fail}
use Rattle.lexing.specs.words.{keyword}
use Rattle.lexing.specs.word_sets.{same_bytes}
use Rattle.lexing.proofs.Tests.{and_left, and_right}
use Rattle.lexing.proofs.FirstWord.{Frees}
use Rattle.lexing.proofs.words.Laws.{key_differs}
use Rattle.lexing.proofs.word_sets.Laws.{same_eq}

-- letters of a text, in lower case, each with its place
abbrev pub Letters : List ℕ → List (ℕ × ℕ) → Type 0
Letters u [] = Unit {0}
Letters u (l ∷ ls) = (lower (get_or u l.0 0) ≡ l.1) × Letters u ls

-- a keyword has another byte at one of their places
abbrev pub unlike : List (ℕ × ℕ) → List ℕ → Bool
unlike [] k = false
unlike (l ∷ ls) k = (ltb l.0 (length k) && not (eqb l.1 (get_or k l.0 0))) || unlike ls k

abbrev pub among : List (List ℕ) → List ℕ → Bool
among [] k = false
among (j ∷ js) k = same_bytes k j || among js k

-- by letters and keywords that are known not to be there, none of some keywords is there
abbrev pub all_out : List (ℕ × ℕ) → List (List ℕ) → List (List ℕ) → Bool
all_out ls js [] = true
all_out ls js (k ∷ ks) = (unlike ls k || among js k) && all_out ls js ks

-- a byte is none of some, and a keyword begins with one of them
abbrev pub NoneOf : List ℕ → ℕ → Type 0
NoneOf [] x = Unit {0}
NoneOf (y ∷ ys) x = NoneOf ys x × (x ≡ y → ⊥)

abbrev pub has : List ℕ → ℕ → Bool
has [] y = false
has (z ∷ zs) y = eqb y z || has zs y

abbrev pub all_begin : List ℕ → List (List ℕ) → Bool
all_begin ys [] = true
all_begin ys (k ∷ ks) = (ltb 0 (length k) && has ys (get_or k 0 0)) && all_begin ys ks

-- by cases on a test that is true
pub or_cases : {P : Type 0} (s t : Bool) → (s || t) ≡ true → (s ≡ true → P) → (t ≡ true → P) → P
or_cases true t e f g = f refl
or_cases false t e f g = g e

pub none_has : (ys : List ℕ) (x : ℕ) → NoneOf ys x → (y : ℕ) → has ys y ≡ true → x ≡ y → ⊥
none_has [] x n y e q = false≢true e
none_has (z ∷ zs) x n y e q = or_cases (eqb y z) (has zs y) e (λ h. n.1 (q ∙ eqb-true y z h)) (λ h. none_has zs x n.0 y h q)

module _ (b : ℕ) (u : List ℕ) where
  unlike_fails : (k : List ℕ) (ls : List (ℕ × ℕ)) → Letters u ls → unlike ls k ≡ true → keyword k b u ≡ fail b
  unlike_fails k [] h e = absurd (false≢true e)
  unlike_fails k (l ∷ ls) h e = or_cases _ (unlike ls k) e here (unlike_fails k ls h.1)
    where
      here : (ltb l.0 (length k) && not (eqb l.1 (get_or k l.0 0))) ≡ true → keyword k b u ≡ fail b
      here q =
          let lt = ltb-true l.0 (length k) (and_left (ltb l.0 (length k)) _ q) in
          let ne = not-true (eqb l.1 (get_or k l.0 0)) (and_right (ltb l.0 (length k)) _ q) in
          sym (key_differs k b u l.0 lt (λ o w. true≢false (sym (eq-eqb l.1 (get_or k l.0 0) (sym h.0 ∙ o)) ∙ ne)))

  among_free : (js : List (List ℕ)) → Frees b u js → (k : List ℕ) → among js k ≡ true → keyword k b u ≡ fail b
  among_free [] f k e = absurd (false≢true e)
  among_free (j ∷ js) f k e = or_cases (same_bytes k j) (among js k) e (λ q. rw (same_eq k j q) f.0) (among_free js f.1 k)

  pub outs_free : (ls : List (ℕ × ℕ)) → Letters u ls → (js : List (List ℕ)) → Frees b u js → (ks : List (List ℕ)) → all_out ls js ks ≡ true → Frees b u ks
  outs_free ls h js f [] e = tt
  outs_free ls h js f (k ∷ ks) e =
      let t = and_left (unlike ls k || among js k) (all_out ls js ks) e in
      (or_cases (unlike ls k) (among js k) t (unlike_fails k ls h) (among_free js f k), outs_free ls h js f ks (and_right (unlike ls k || among js k) (all_out ls js ks) e))

  pub initials_free : (ys : List ℕ) (x : ℕ) → NoneOf ys x → lower (get_or u 0 0) ≡ x → (ks : List (List ℕ)) → all_begin ys ks ≡ true → Frees b u ks
  initials_free ys x n h [] e = tt
  initials_free ys x n h (k ∷ ks) e =
      let t = and_left (ltb 0 (length k) && has ys (get_or k 0 0)) (all_begin ys ks) e in
      let lt = ltb-true 0 (length k) (and_left (ltb 0 (length k)) _ t) in
      (sym (key_differs k b u 0 lt (λ o w. none_has ys x n (get_or k 0 0) (and_right (ltb 0 (length k)) _ t) (sym h ∙ o))), initials_free ys x n h ks (and_right (ltb 0 (length k) && has ys (get_or k 0 0)) (all_begin ys ks) e))
