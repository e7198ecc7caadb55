-- A fixed array of bits, eight to a byte.
use Rattle.std.specs.Prelude.{ℕ, ◌^◌, ◌/◌, ◌%◌, ◌≡◌, Bool, true, List, eqb, get_or}

-- the bytes of 2^19 bits
abbrev pub bits_size : ℕ
bits_size = 65536

unfoldable pub has_bit : List ℕ → ℕ → Bool
has_bit f i = eqb (get_or f (i / 8) 0 / 2 ^ (i % 8) % 2) 1

-- bit i is set, and every other bit is as it was
pub record BitSet (g f : List ℕ) (i : ℕ) : Type 0 where
  pub is : has_bit g i ≡ true
  pub others : (j : ℕ) → (j ≡ i → ⊥) → has_bit g j ≡ has_bit f j
