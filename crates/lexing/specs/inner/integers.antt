-- What the private functions of the readers of integers promise.
use Rattle.std.specs.Prelude.{ℕ, ◌≤◌, ◌<◌, ◌≡◌, Bool, true, false, ◌&&◌, ◌||◌, List, eqb, length, get_or, Option, Some, None}
use Rattle.lexing.specs.bytes.{is_digit, is_hex, list_take_while, number}
use Rattle.lexing.specs.integers.{u64_max}

-- by the base: hexadecimal or not
abbrev pub digit_test : Bool → ℕ → Bool
digit_test true = is_hex
digit_test false = is_digit

abbrev pub radix : Bool → ℕ
radix true = 16
radix false = 10

-- the digits at the front of u, and their value where it fits
abbrev pub digits_are : Bool → List ℕ → Option (ℕ × ℕ) → Type 0
digits_are h u (Some d) = (d.0 ≡ number (radix h) 0 (list_take_while (digit_test h) u)) × ((d.1 ≡ length (list_take_while (digit_test h) u)) × (d.0 ≤ u64_max))
digits_are h u None = u64_max < number (radix h) 0 (list_take_while (digit_test h) u)

-- `0x` or `0X` and a hexadecimal digit
unfoldable pub is_hex_ahead : List ℕ → Bool
is_hex_ahead u = eqb (get_or u 0 0) 0x30 && ((eqb (get_or u 1 0) 0x78 || eqb (get_or u 1 0) 0x58) && is_hex (get_or u 2 0))
