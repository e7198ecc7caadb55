-- Laws of the functions that read records back.
use Prim.Native.Nat.{ℕ, zero, suc, ◌+◌, ◌*◌, ◌^◌, ◌/◌, ◌%◌, ◌≤◌, ◌<◌}
use mathlib.Core.Path.{◌≡◌, refl, sym, ◌∙◌, ap, subst}
use mathlib.Core.Bool.{Bool, true, ◌&&◌, ◌||◌}
use mathlib.Core.List.{List, [], ◌∷◌}
use native.Mathlib.Omega.{arith}
use native.Mathlib.Numerals.{towards_suc}
use lib.Dec.{eqb}
use lib.ListN.{length, take, drop, get_or}
use lib.Seq.{drop-cons}
use borrow.Author.Tests.{eqb-true}
use Rattle.lexing.specs.buffers.{from_big_endian}
use Rattle.lexing.proofs.Tests.{and_left, and_right}
use Rattle.items.specs.records.{further_counts, further_of_kind}
use Rattle.items.specs.layout.{total, kind_field, place_field, maturity_field, doc_field, flags_field, offset_field, length_field, first_privilege_field, second_privilege_field, layout, words_of_kind}
use Rattle.items.specs.stored.{word_at, field_number, same_field, has_field, below, field_width, field_of, value_in, value_at}
use Rattle.items.proofs.Letters.{NoneOf, has, none_has, or_cases}

-- the words of a kind that is told
pub words_at : {k j : ℕ} → k ≡ j → words_of_kind layout j ≡ words_of_kind layout k
words_at e = ap (words_of_kind layout) (sym e)

-- every entry of a table, from a place on, is 0 or has its place among some
abbrev only : List ℕ → ℕ → List ℕ → Bool
only js i [] = true
only js i (x ∷ l) = (eqb x 0 || has js i) && only js (suc i) l

zero_else : (js l : List ℕ) (i k : ℕ) → only js i l ≡ true → NoneOf js (k + i) → get_or l k 0 ≡ 0
zero_else js [] i k e n = refl
zero_else js (x ∷ l) i zero e n = or_cases (eqb x 0) (has js i) (and_left (eqb x 0 || has js i) (only js (suc i) l) e) (eqb-true x 0) (λ h. absurd (none_has js (0 + i) n i h (let z : 0 + i ≡ i = omega arith in z)))
zero_else js (x ∷ l) i (suc k) e n = zero_else js l (suc i) k (and_right (eqb x 0 || has js i) (only js (suc i) l) e) (subst (NoneOf js) (let z : suc k + i ≡ k + suc i = omega arith in z) n)

-- the kinds with further words
abbrev longer : List ℕ
longer = 17 ∷ 14 ∷ 11 ∷ 10 ∷ 9 ∷ 8 ∷ 7 ∷ 6 ∷ 5 ∷ 4 ∷ 3 ∷ 2 ∷ 1 ∷ []

pub words_else : {k : ℕ} → NoneOf longer k → 1 ≡ words_of_kind layout k
unfolding words_of_kind further_of_kind layout
words_else {k} n = omega (arith, zero_else longer further_counts 0 k refl (subst (NoneOf longer) (let z : k ≡ k + 0 = omega arith in z) n))

-- the bytes of a word
abbrev elements : ℕ → List ℕ → ℕ → List ℕ
elements zero l i = []
elements (suc n) l i = get_or l i 0 ∷ elements n l (suc i)

elements_are : (n : ℕ) (l : List ℕ) (i : ℕ) → i + n ≤ length l → take n (drop i l) ≡ elements n l i
elements_are zero l i h = refl
elements_are (suc n) l i h = ap (take (suc n)) (drop-cons l i 0 (omega arith)) ∙ ap (λ x. get_or l i 0 ∷ x) (elements_are n l (suc i) (omega arith))

pub word_at_is : (l : List ℕ) (i : ℕ) → i + 8 ≤ length l
    → get_or l (i + 7) 0 + get_or l (i + 6) 0 * 256 + get_or l (i + 5) 0 * 65536 + get_or l (i + 4) 0 * 16777216 + get_or l (i + 3) 0 * 4294967296 + get_or l (i + 2) 0 * 1099511627776 + get_or l (i + 1) 0 * 281474976710656 + get_or l i 0 * 72057594037927936
    ≡ word_at l i
unfolding word_at from_big_endian
word_at_is l i h = rw (elements_are 8 l i h) (simp towards_suc (omega arith))

-- Document 01's numbers of each field.
module _ (u : List ℕ) (o : ℕ) where
  kind_in : value_at layout kind_field u o ≡ word_at u o / 2 ^ 56 % 2 ^ 8
  unfolding value_at value_in layout has_field same_field field_number field_of below field_width total
  kind_in = refl

  pub place_in : value_at layout place_field u o ≡ word_at u o / 2 ^ 54 % 2 ^ 2
  unfolding value_at value_in layout has_field same_field field_number field_of below field_width total
  place_in = refl

  pub maturity_in : value_at layout maturity_field u o ≡ word_at u o / 2 ^ 52 % 2 ^ 2
  unfolding value_at value_in layout has_field same_field field_number field_of below field_width total
  maturity_in = refl

  pub doc_in : value_at layout doc_field u o ≡ word_at u o / 2 ^ 51 % 2 ^ 1
  unfolding value_at value_in layout has_field same_field field_number field_of below field_width total
  doc_in = refl

  pub flags_in : value_at layout flags_field u o ≡ word_at u o / 2 ^ 44 % 2 ^ 7
  unfolding value_at value_in layout has_field same_field field_number field_of below field_width total
  flags_in = refl

  pub offset_in : value_at layout offset_field u o ≡ word_at u o / 2 ^ 24 % 2 ^ 20
  unfolding value_at value_in layout has_field same_field field_number field_of below field_width total
  offset_in = refl

  pub length_in : value_at layout length_field u o ≡ word_at u o / 2 ^ 4 % 2 ^ 20
  unfolding value_at value_in layout has_field same_field field_number field_of below field_width total
  length_in = refl

  pub first_privilege_in : value_at layout first_privilege_field u o ≡ word_at u o / 2 ^ 2 % 2 ^ 2
  unfolding value_at value_in layout has_field same_field field_number field_of below field_width total
  first_privilege_in = refl

  pub second_privilege_in : value_at layout second_privilege_field u o ≡ word_at u o / 2 ^ 0 % 2 ^ 2
  unfolding value_at value_in layout has_field same_field field_number field_of below field_width total
  second_privilege_in = refl

-- The first two bytes.
module _ (l : List ℕ) (b : (i : ℕ) → get_or l i 0 < 256) (i : ℕ) (h : i + 8 ≤ length l) where
  pub kind_byte : get_or l i 0 ≡ value_at layout kind_field l i
  kind_byte = omega (arith, kind_in l i, word_at_is l i h, b i, b (i + 7), b (i + 6), b (i + 5), b (i + 4), b (i + 3), b (i + 2), b (i + 1))

  pub place_byte : get_or l (i + 1) 0 / 64 ≡ value_at layout place_field l i
  place_byte = omega (arith, place_in l i, word_at_is l i h, b i, b (i + 7), b (i + 6), b (i + 5), b (i + 4), b (i + 3), b (i + 2), b (i + 1))

  -- a word has 64 bits
  pub word_less : word_at l i < 2 ^ 64
  word_less = omega (arith, word_at_is l i h, b i, b (i + 7), b (i + 6), b (i + 5), b (i + 4), b (i + 3), b (i + 2), b (i + 1))
