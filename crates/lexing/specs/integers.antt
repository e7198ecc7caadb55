-- Integers.
use Rattle.std.specs.Prelude.{ℕ, suc, ◌+◌, ◌-◌, ◌^◌, Bool, true, false, List, [], ◌∷◌, leb, eqb, length}
use Rattle.lexing.specs.bytes.{plus, minus, is_digit, is_hex, list_take_while, list_drop_while, number, byte}
use Rattle.lexing.specs.reply.{Reply, ok, fail, stop, Parser, ◌>>=◌, ◌>>◌, catch, position}
use Rattle.lexing.specs.runs.{take_while1, tag2}

-- the largest u64
abbrev pub u64_max : ℕ
u64_max = 0xffff_ffff_ffff_ffff

-- a value that fits 64 bits; above that the Rust's `expect` panics: stop 4 at the integer's first byte
unfoldable pub fitting : ℕ → ℕ → Parser ℕ
fitting b v c r = elim (leb v u64_max) [ true ↦ ok v c r | false ↦ stop 4 b ]

-- `hex_integer`, parser.rs line 163: `0x` or `0X`, then nom's `hex_digit1`
unfoldable pub hex_integer : Parser ℕ
hex_integer = do
  start ← position
  catch (tag2 (byte "0") (byte "x")) λ p. tag2 (byte "0") (byte "X")
  digits ← take_while1 is_hex
  fitting start (number 16 0 digits)

-- `decimal_integer`, parser.rs line 207: nom's `digit1`
unfoldable pub decimal_integer : Parser ℕ
decimal_integer = do
  start ← position
  digits ← take_while1 is_digit
  fitting start (number 10 0 digits)

-- `positive_integer`, parser.rs line 232: hexadecimal first, so that `0x12` is not 0 and then `x12`
unfoldable pub positive_integer : Parser ℕ
positive_integer = catch hex_integer λ p. decimal_integer

-- a signed number: whether it is negative, and its magnitude
pub data Signed : Type 0 where
  signed : Bool → ℕ → Signed

-- the largest magnitude that 64 bits in two's complement hold
unfoldable pub largest : Bool → ℕ
largest true = 2 ^ 63
largest false = 2 ^ 63 - 1

unfoldable pub in_range : Bool → ℕ → ℕ → ℕ → List ℕ → Reply Signed
in_range m b v c r = elim (leb v (largest m)) [ true ↦ ok (signed m v) c r | false ↦ fail b ]

-- the digits after a sign that is at b
unfoldable pub after_sign : Bool → ℕ → List ℕ → Reply Signed
after_sign m b [] = fail b
after_sign m b (y ∷ v) =
    elim (is_digit y) [
      | true ↦ in_range m b (number 10 0 (list_take_while is_digit (y ∷ v))) (b + suc (length (list_take_while is_digit (y ∷ v)))) (list_drop_while is_digit (y ∷ v))
      | false ↦ fail b
    ]

-- nom's `character::complete::i64` where a sign is: beyond the 64-bit range it fails. (Without a sign `positive_integer` has been tried before.)
unfoldable pub signed_integer : Parser Signed
signed_integer b [] = fail b
signed_integer b (x ∷ u) =
    elim (eqb x minus) [ true ↦ after_sign true b u | false ↦ elim (eqb x plus) [ true ↦ after_sign false b u | false ↦ fail b ] ]
