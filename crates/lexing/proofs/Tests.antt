-- Facts about the tests on bytes.
use Prim.Native.Nat.{ℕ, ◌≤◌}
use mathlib.Core.Path.{◌≡◌, refl, ◌∙◌, ap}
use mathlib.Core.Bool.{Bool, true, false, ◌||◌, ◌&&◌, true≢false, false≢true}
use mathlib.Core.Logic.{◌⊎◌, inl, inr}
use native.Mathlib.Omega.{arith}
use lib.Dec.{eqb, leb, leb→le, eqb→eq}
use Rattle.lexing.specs.bytes.{within, is_letter, is_digit, is_word, is_space}

pub eq_of : (x y : ℕ) → eqb x y ≡ true → x ≡ y
eq_of x y e = eqb→eq x y (rw e tt)

pub le_of : (x y : ℕ) → leb x y ≡ true → x ≤ y
le_of x y e = leb→le x y (rw e tt)

pub and_right : (a b : Bool) → (a && b) ≡ true → b ≡ true
and_right true b e = e
and_right false b e = absurd (false≢true e)

pub and_left : (a b : Bool) → (a && b) ≡ true → a ≡ true
and_left true b e = refl
and_left false b e = absurd (false≢true e)

pub or_true : (a b : Bool) → (a || b) ≡ true → (a ≡ true) ⊎ (b ≡ true)
or_true true b e = inl refl
or_true false b e = inr e

pub or_false : (a b : Bool) → (a || b) ≡ false → (a ≡ false) × (b ≡ false)
or_false true b e = absurd (true≢false e)
or_false false b e = (refl, e)

pub within_of : (a z x : ℕ) → within a z x ≡ true → (a ≤ x) × (x ≤ z)
unfolding within
within_of a z x e = (le_of a x (and_left (leb a x) (leb x z) e), le_of x z (and_right (leb a x) (leb x z) e))

pub false_if : (b : Bool) → (b ≡ true → ⊥) → b ≡ false
false_if true h = absurd (h refl)
false_if false h = refl

-- a blank's first byte, at a test that all blanks fail
pub blank_fails : (f : ℕ → Bool) → f 47 ≡ false → f 32 ≡ false → f 9 ≡ false → f 10 ≡ false → f 13 ≡ false → (x : ℕ) → (eqb x 47 || is_space x) ≡ true → f x ≡ false
unfolding is_space
blank_fails f e47 e32 e9 e10 e13 x h = a (or_true (eqb x 47) (is_space x) h)
  where
    c'' : (eqb x 32 ≡ true) ⊎ (eqb x 9 ≡ true) → f x ≡ false
    c'' (inl e) = ap f (eq_of x 32 e) ∙ e32
    c'' (inr e) = ap f (eq_of x 9 e) ∙ e9

    c' : ((eqb x 32 || eqb x 9) ≡ true) ⊎ (eqb x 10 ≡ true) → f x ≡ false
    c' (inl e) = c'' (or_true (eqb x 32) (eqb x 9) e)
    c' (inr e) = ap f (eq_of x 10 e) ∙ e10

    c : ((eqb x 32 || eqb x 9 || eqb x 10) ≡ true) ⊎ (eqb x 13 ≡ true) → f x ≡ false
    c (inl e) = c' (or_true (eqb x 32 || eqb x 9) (eqb x 10) e)
    c (inr e) = ap f (eq_of x 13 e) ∙ e13

    a : (eqb x 47 ≡ true) ⊎ (is_space x ≡ true) → f x ≡ false
    a (inl e) = ap f (eq_of x 47 e) ∙ e47
    a (inr e) = c (or_true (eqb x 32 || eqb x 9 || eqb x 10) (eqb x 13) e)

-- a letter is a word's byte
pub letter_word : (x : ℕ) → is_letter x ≡ true → is_word x ≡ true
unfolding is_word
letter_word x e = rw e

-- a digit is no letter
pub digit_no_letter : (x : ℕ) → is_digit x ≡ true → is_letter x ≡ false
unfolding is_digit is_letter
digit_no_letter x h = false_if (is_letter x) λ e. a (or_true (within 97 122 x || within 65 90 x) (eqb x 95) e)
  where
    b : (x ≤ 57) → (within 97 122 x ≡ true) ⊎ (within 65 90 x ≡ true) → ⊥
    b l (inl e) = omega (arith, within_of 97 122 x e)
    b l (inr e) = omega (arith, within_of 65 90 x e)

    a : ((within 97 122 x || within 65 90 x) ≡ true) ⊎ (eqb x 95 ≡ true) → ⊥
    a (inl e) = b (within_of 48 57 x h).1 (or_true (within 97 122 x) (within 65 90 x) e)
    a (inr e) = omega (arith, within_of 48 57 x h, eq_of x 95 e)
