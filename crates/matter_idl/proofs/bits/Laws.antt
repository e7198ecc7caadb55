-- Laws of bits: a byte's bits, one bit of an array set, and an array of clear bits.
use Prim.Native.Nat.{ℕ, zero, suc, ◌*◌, ◌^◌, ◌/◌, ◌%◌, ◌<◌}
use mathlib.Core.Path.{◌≡◌, refl, ap, ◌∙◌}
use mathlib.Core.Bool.{false}
use mathlib.Core.List.{List}
use native.Mathlib.Omega.{arith}
use native.Mathlib.Decide.{ℕ_discrete}
use native.Mathlib.Nat.{div_self, div-eq_of_lt, zero-div, mod-lt, mul-div-mul_right, one-le-pow, pow-suc}
use lib.Bits.{bit_or, or_shr, or_mod, or_zero_r}
use lib.Dec.{eqb}
use lib.ListN.{length, get_or, set, replicate}
use lib.Seq.{get_or-set_same, get_or-set_other}
use borrow.Author.Tests.{eq-eqb}
use Rattle.std.proofs.lemmas.Nat.{one_shl}
use Rattle.matter_idl.specs.inner.bits.{bits_size, has_bit, BitSet}

-- a power of two has its own bit and no other
own_bit : (k : ℕ) → 2 ^ k / 2 ^ k % 2 ≡ 1
own_bit k = ap (λ x. x % 2) (div_self (one-le-pow k 2 (omega arith)))

other_bit : (i k : ℕ) → (k ≡ i → ⊥) → 2 ^ i / 2 ^ k % 2 ≡ 0
other_bit zero zero h = absurd (h refl)
other_bit zero (suc k) h = ap (λ x. x % 2) (div-eq_of_lt (rw (pow-suc 2 k) (omega (arith, one-le-pow k 2 (omega arith)))))
other_bit (suc i) zero h = rw (pow-suc 2 i) (omega arith)
other_bit (suc i) (suc k) h = rw (pow-suc 2 i, pow-suc 2 k, mul-div-mul_right {m = 2} (2 ^ i) (2 ^ k) (omega arith)) (other_bit i k (λ e. h (ap suc e)))

-- a bit of two bytes together
or_bit : (a b k : ℕ) → bit_or a b / 2 ^ k % 2 ≡ bit_or (a / 2 ^ k % 2) (b / 2 ^ k % 2)
or_bit a b k = ap (λ x. x % 2) (or_shr a b k) ∙ or_mod (a / 2 ^ k) (b / 2 ^ k) 1

or_one : (y : ℕ) → y < 2 → bit_or y 1 ≡ 1
or_one zero h = refl
or_one (suc zero) h = refl
or_one (suc (suc y)) h = absurd (omega arith)

-- bit i is set
module _ (f : List ℕ) (i : ℕ) (z : length f ≡ bits_size) (l : i < 2 ^ 19) where
  abbrev byte : ℕ
  byte = bit_or (get_or f (i / 8) 0) (2 ^ (i % 8))

  abbrev with_bit : List ℕ
  with_bit = set f (i / 8) byte

  byte_is : get_or with_bit (i / 8) 0 ≡ byte
  byte_is = get_or-set_same f (i / 8) byte 0 (omega arith)

  this_bit : get_or with_bit (i / 8) 0 / 2 ^ (i % 8) % 2 ≡ 1
  this_bit = rw (byte_is, or_bit (get_or f (i / 8) 0) (2 ^ (i % 8)) (i % 8), own_bit (i % 8)) (or_one (get_or f (i / 8) 0 / 2 ^ (i % 8) % 2) (mod-lt _ (omega arith)))

  other : (j : ℕ) → (j ≡ i → ⊥) → Dec (j / 8 ≡ i / 8) → get_or with_bit (j / 8) 0 / 2 ^ (j % 8) % 2 ≡ get_or f (j / 8) 0 / 2 ^ (j % 8) % 2
  other j h (yes e) = rw (e, byte_is, or_bit (get_or f (i / 8) 0) (2 ^ (i % 8)) (j % 8), other_bit (i % 8) (j % 8) (λ d. h (omega arith))) (or_zero_r (get_or f (i / 8) 0 / 2 ^ (j % 8) % 2))
  other j h (no e) = ap (λ x. x / 2 ^ (j % 8) % 2) (get_or-set_other f (i / 8) (j / 8) byte 0 e)

  bit_set_at : BitSet with_bit f i
  unfolding has_bit
  bit_set_at = record { is = eq-eqb _ _ this_bit; others = λ j h. ap (λ x. eqb x 1) (other j h (ℕ_discrete (j / 8) (i / 8))) }

  -- 1 << k, as a byte
  pub bit_set : BitSet (set f (i / 8) (bit_or (get_or f (i / 8) 0) (1 * 2 ^ (i % 8) % 2 ^ 8))) f i
  bit_set = rw (one_shl (i % 8) 8 (omega arith)) bit_set_at

-- an array of zeros has no bit
zeros : (n j : ℕ) → get_or {A = ℕ} (replicate n 0) j 0 ≡ 0
zeros zero j = refl
zeros (suc n) zero = refl
zeros (suc n) (suc j) = zeros n j

pub none_set : (n i : ℕ) → has_bit (replicate n 0) i ≡ false
unfolding has_bit
none_set n i = rw (zeros n (i / 8), zero-div (2 ^ (i % 8))) refl
