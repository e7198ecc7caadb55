-- Unescaping, a part that document 01 adds: what comes out of the bytes between a default string's quotes (the escapes are those in the loop of `default_attribute_value`, parser.rs line 1135).
use Rattle.std.specs.Prelude.{ℕ, ◌+◌, true, false, Option, Some, None, Result, Ok, Err, List, [], ◌∷◌, eqb}
use Rattle.lexing.specs.bytes.{quote, backslash, lf, tab}
use Rattle.lexing.specs.outcomes.{Outcome, refused, fitted}
use Rattle.lexing.specs.declared.unescaping.UnescapeError.{UnescapeError}
use Rattle.lexing.specs.declared.unescaping.UnescapeError.TheVariants.{Fault, Short}

-- the second byte of each escape (0x6e is n, 0x74 is t) and the byte that the escape stands for
unfoldable pub escapes : List (ℕ × ℕ)
escapes = (quote, quote) ∷ (backslash, backslash) ∷ (0x6e, lf) ∷ (0x74, tab) ∷ []

-- what is beside y in a table
unfoldable pub lookup : ℕ → List (ℕ × ℕ) → Option ℕ
lookup y [] = None
lookup y (e ∷ l) = elim (eqb y e.0) [ true ↦ Some e.1 | false ↦ lookup y l ]

-- the byte that a backslash and y stand for, if any
unfoldable pub escaped : ℕ → Option ℕ
escaped y = lookup y escapes

-- the bytes that come out, or the offset of the first quote or backslash at fault
pub data Unescaped : Type 0 where
  gives : List ℕ → Unescaped
  fault_at : ℕ → Unescaped

-- the byte x, then what comes out after it
unfoldable pub first : ℕ → Unescaped → Unescaped
first x (gives l) = gives (x ∷ l)
first x (fault_at k) = fault_at k

unfoldable mutual
  -- what comes out of the bytes from offset b on
  pub unescape_from : ℕ → List ℕ → Unescaped
  unescape_from b [] = gives []
  unescape_from b (x ∷ u) =
      elim (eqb x quote) [
        | true ↦ fault_at b
        | false ↦ elim (eqb x backslash) [ true ↦ escape_from b u | false ↦ first x (unescape_from (b + 1) u) ]
      ]

  -- what comes out from a backslash at offset b on, by the bytes after it
  pub escape_from : ℕ → List ℕ → Unescaped
  escape_from b [] = fault_at b
  escape_from b (y ∷ u) = elim (escaped y) [ None ↦ fault_at b | Some z ↦ first z (unescape_from (b + 2) u) ]

-- what comes out of a part
unfoldable pub unescape : List ℕ → Unescaped
unescape u = unescape_from 0 u

-- with n bytes of output: 9 at a fault, then 10 with the bytes needed where they are more than n
unfoldable pub into : ℕ → Unescaped → Outcome
into n (fault_at k) = refused 9 k
into n (gives l) = fitted 10 n l

-- the outcome of unescaping a part with n bytes of output
unfoldable pub outcome : List ℕ → ℕ → Outcome
outcome u n = into n (unescape u)

-- the code's answer as a number and a value
abbrev pub answer : Result ℕ UnescapeError → ℕ × ℕ
answer (Ok n) = (0, n)
answer (Err (Fault k)) = (9, k)
answer (Err (Short n)) = (10, n)
