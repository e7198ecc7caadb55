-- Numbers of refusals: a test that each number of a list passes, and the lists in each other.
use mathlib.Core.Path.{◌≡◌, refl, ap, ◌∙◌}
use mathlib.Core.Bool.{Bool, true, false, ◌&&◌, ◌||◌, false≢true}
use mathlib.Core.List.{List, [], ◌∷◌}
use Prim.Native.Nat.{ℕ, ◌<◌}
use lib.Dec.{eqb, ltb}
use borrow.Author.Tests.{ltb-true}
use Rattle.lexing.specs.outcomes.{stop_numbers, part_numbers, text_numbers, among, Among}
use Rattle.lexing.proofs.Tests.{eq_of, and_left, and_right}

abbrev pub all_numbers : (ℕ → Bool) → List ℕ → Bool
all_numbers t [] = true
all_numbers t (k ∷ ks) = t k && all_numbers t ks

pub number_test : (t : ℕ → Bool) (ks : List ℕ) → all_numbers t ks ≡ true → (n : ℕ) → Among ks n → t n ≡ true
number_test t [] a n h = absurd (false≢true h)
number_test t (k ∷ ks) a n h = go (eqb n k) refl h (number_test t ks (and_right (t k) (all_numbers t ks) a) n)
  where
    go : (b : Bool) → eqb n k ≡ b → (b || among n ks) ≡ true → (among n ks ≡ true → t n ≡ true) → t n ≡ true
    go true e i ih = ap t (eq_of n k e) ∙ and_left (t k) (all_numbers t ks) a
    go false e i ih = ih i

-- below a bound that is above each of them
pub number_less : (m : ℕ) (ks : List ℕ) → all_numbers (λ k. ltb k m) ks ≡ true → (n : ℕ) → Among ks n → n < m
number_less m ks a n h = ltb-true n m (number_test (λ k. ltb k m) ks a n h)

-- what ends all reading refuses a part, and what refuses a part refuses the text
pub stop_part : (n : ℕ) → Among stop_numbers n → Among part_numbers n
stop_part n h = number_test (λ k. among k part_numbers) stop_numbers refl n h

pub part_text : (n : ℕ) → Among part_numbers n → Among text_numbers n
part_text n h = number_test (λ k. among k text_numbers) part_numbers refl n h
