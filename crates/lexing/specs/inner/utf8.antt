-- What the private functions of the test for well-formed UTF-8 promise.
use Rattle.std.specs.Prelude.{ℕ, suc, ◌+◌, ◌-◌, ◌≤◌, ◌<◌, Bool, true, false, ◌&&◌, List, [], ◌∷◌, length, get_or, replicate, Option, Some, None}
use Rattle.lexing.specs.utf8.{Range, ◌to◌, has, following, table}

-- whether the bytes at the front are in the ranges, one in each
unfoldable pub fits : List Range → List ℕ → Bool
fits [] u = true
fits (r ∷ rs) [] = false
fits (r ∷ rs) (x ∷ u) = has r x && fits rs u

-- the length of a sequence with these ranges after its first byte, none where the bytes after that do not fit
unfoldable pub size_of : Option (List Range) → List ℕ → Option ℕ
size_of None u = None
size_of (Some rs) u = elim (fits rs u) [ true ↦ Some (suc (length rs)) | false ↦ None ]

-- the length of the well-formed sequence at the front, if any
unfoldable pub sequence_size : List ℕ → Option ℕ
sequence_size [] = None
sequence_size (x ∷ u) = size_of (following table x) u

-- the ranges after the first byte of a sequence of n bytes, 2 or more, whose second byte is from lo to hi
unfoldable pub later : ℕ → ℕ → ℕ → List Range
later n lo hi = lo to hi ∷ replicate (n - 2) (0x80 to 0xbf)

-- none of the n bytes from i on is above r
pub record Bounds (r : ℕ) (u : List ℕ) (i n : ℕ) : Type 0 where
  pub each : (j : ℕ) → j < n → get_or u (i + j) 0 ≤ r

-- n bytes from i on are ASCII, one at least
pub record AsciiAt (u : List ℕ) (i n : ℕ) : Type 0 where
  pub onward : 0 < n
  pub inside : i + n ≤ length u
  pub ascii : (j : ℕ) → j < n → get_or u (i + j) 0 < 0x80
