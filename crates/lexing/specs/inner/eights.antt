-- Numbers by their bytes, the lowest first: what the functions over eight bytes promise.
use Rattle.std.specs.Prelude.{ℕ, zero, suc, ◌+◌, ◌*◌, ◌/◌, ◌%◌, Bool, true, false, List, eqb, ltb, get_or}
use Rattle.lexing.specs.bytes.{within, lower}

-- the number whose n bytes are f 0, f 1, ..
unfoldable pub pack : ℕ → (ℕ → ℕ) → ℕ
pack zero f = 0
pack (suc n) f = pack n (λ j. f (suc j)) * 256 + f 0

-- a number's byte j
unfoldable pub byte_at : ℕ → ℕ → ℕ
byte_at w zero = w % 256
byte_at w (suc j) = byte_at (w / 256) j

-- the bytes of a part from i on
abbrev pub bytes_from : List ℕ → ℕ → ℕ → ℕ
bytes_from u i j = get_or u (i + j) 0

-- a byte's highest bit, set where a test fails
unfoldable pub failed : Bool → ℕ
failed true = 0
failed false = 0x80

-- of the eight bytes of w those that fail a test
unfoldable pub failing : (ℕ → Bool) → ℕ → ℕ
failing t w = pack 8 (λ j. failed (t (byte_at w j)))

abbrev pub is_ascii : ℕ → Bool
is_ascii x = ltb x 0x80

-- a letter from a to z in either case
unfoldable pub is_alpha : ℕ → Bool
is_alpha x = within 0x61 0x7a (lower x)

-- the byte x
abbrev pub is_byte : ℕ → ℕ → Bool
is_byte x y = eqb y x

-- a letter from A to Z
abbrev pub is_capital : ℕ → Bool
is_capital x = within 0x41 0x5a x
