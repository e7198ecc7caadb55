-- What the private functions of unescaping promise.
use Rattle.std.specs.Prelude.{ℕ, ◌+◌, ◌≤◌, ◌<◌, ◌≡◌, Option, Some, None, Result, Ok, Err, List, length, drop}
use Rattle.lexing.specs.unescaping.{Unescaped, gives, fault_at, first, unescape_from}

-- the count of the bytes that come out, or the first fault
unfoldable pub size_of : Unescaped → Result ℕ ℕ
size_of (gives l) = Ok (length l)
size_of (fault_at k) = Err k

-- what comes out of the part u from offset b on, by the piece that is there: its byte and the offset after it
abbrev pub out_of : List ℕ → ℕ → Option (ℕ × ℕ) → Unescaped
out_of u b (Some p) = first p.0 (unescape_from p.1 (drop p.1 u))
out_of u b None = fault_at b

-- the offset after the piece at b, or after the byte at fault
abbrev pub after : ℕ → Option (ℕ × ℕ) → ℕ
after b (Some p) = p.1
after b None = b + 1

-- p is the piece of the part u at offset b
pub record PieceAt (u : List ℕ) (b : ℕ) (p : Option (ℕ × ℕ)) : Type 0 where
  pub out : unescape_from b (drop b u) ≡ out_of u b p
  pub onward : b < after b p
  pub inside : after b p ≤ length u
