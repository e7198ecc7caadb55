-- The library's letters, hexadecimal digits and lower case of ASCII are those of the definitions.
use mathlib.Core.Path.{◌≡◌, refl}
use mathlib.Core.Bool.{Bool, true, false, ◌||◌}
use Prim.Native.Nat.{ℕ, ◌<◌}
use lib.Dec.{eqb}
use Rattle.std.specs.Char.{is_ascii_alphabetic, is_ascii_hexdigit, to_ascii_lowercase}
use Rattle.lexing.specs.bytes.{within, is_digit, is_hex, is_letter, underscore, lower}
use Rattle.lexing.proofs.EveryByte.{every, every_at, same, alike_at}
use Rattle.lexing.proofs.Tests.{eq_of}

letters : every 256 (λ x. same (is_ascii_alphabetic x || eqb x underscore) (is_letter x)) ≡ true
unfolding every is_letter within
letters = refl

hex_digits : every 256 (λ x. same (is_ascii_hexdigit x) (is_hex x)) ≡ true
unfolding every is_hex is_digit within
hex_digits = refl

pub hex_digit : (x : ℕ) → x < 256 → is_ascii_hexdigit x ≡ is_hex x
hex_digit = alike_at is_ascii_hexdigit is_hex hex_digits

lower_cases : every 256 (λ x. eqb (to_ascii_lowercase x) (lower x)) ≡ true
unfolding every lower within
lower_cases = refl

pub lower_case : (x : ℕ) → x < 256 → to_ascii_lowercase x ≡ lower x
lower_case x h = eq_of (to_ascii_lowercase x) (lower x) (every_at 256 (λ x. eqb (to_ascii_lowercase x) (lower x)) lower_cases x h)

module _ (x : ℕ) (h : x < 256) where
  letter : (is_ascii_alphabetic x || eqb x underscore) ≡ is_letter x
  letter = alike_at (λ x. is_ascii_alphabetic x || eqb x underscore) is_letter letters x h

  pub letter_there : {t : Bool} → t ≡ is_ascii_alphabetic x → t ≡ true → t ≡ is_letter x
  letter_there e f = rw f (rw (← e, f) at letter)

  pub letter_else : {t : Bool} → t ≡ is_ascii_alphabetic x → t ≡ false → eqb x underscore ≡ is_letter x
  letter_else e f = rw (← e, f) at letter
