-- Strings in quotes.
use Rattle.std.specs.Prelude.{ℕ, suc, ◌-◌, Bool, true, false, ◌||◌, List, [], ◌∷◌, eqb}
use Rattle.lexing.specs.bytes.{quote, backslash}
use Rattle.lexing.specs.reply.{Reply, ok, fail, stop, Parser}

-- the offset of the first byte between the quotes, and how many bytes are there
pub data Span : Type 0 where
  span : ℕ → ℕ → Span

-- how a byte after a backslash counts; at `panics` the Rust panics
pub data Escape : Type 0 where
  allowed forbidden panics : Escape

-- the rest of a string, from a byte at b on; escaped: the backslash at b has been seen, and the byte after it comes next.
-- The value is the offset of the closing quote. A forbidden escape and the end of the text fail where the string can't go on.
unfoldable pub string_rest : (ℕ → Escape) → (escaped : Bool) → ℕ → List ℕ → Reply ℕ
string_rest f e b [] = fail b
string_rest f true b (x ∷ u) =
    elim (f x) [ allowed ↦ string_rest f false (suc (suc b)) u | forbidden ↦ fail b | panics ↦ stop 5 b ]
string_rest f false b (x ∷ u) =
    elim (eqb x quote) [
      | true ↦ ok b (suc b) u
      | false ↦ elim (eqb x backslash) [ true ↦ string_rest f true b u | false ↦ string_rest f false (suc b) u ]
    ]

unfoldable pub span_from : ℕ → Reply ℕ → Reply Span
span_from b (ok e c r) = ok (span b (e - b)) c r
span_from b (fail p) = fail p
span_from b (stop n p) = stop n p

-- a quote, the bytes between, a quote
unfoldable pub string_with : (ℕ → Escape) → Parser Span
string_with f b [] = fail b
string_with f b (x ∷ u) = elim (eqb x quote) [ true ↦ span_from (suc b) (string_rest f false (suc b) u) | false ↦ fail b ]

-- `quoted_string`, parser.rs line 242, of an annotation: `\"` and `\\`
unfoldable pub annotation_escape : ℕ → Escape
annotation_escape x = elim (eqb x quote || eqb x backslash) [ true ↦ allowed | false ↦ forbidden ]

unfoldable pub quoted_string : Parser Span
quoted_string = string_with annotation_escape

-- the loop of `default_attribute_value`, parser.rs line 1135: `\"`, `\\`, `\n`, `\t`; at `\r` the Rust panics
unfoldable pub default_escape : ℕ → Escape
default_escape x =
    elim (eqb x quote || eqb x backslash || eqb x 0x6e || eqb x 0x74) [
      | true ↦ allowed
      | false ↦ elim (eqb x 0x72) [ true ↦ panics | false ↦ forbidden ]
    ]

unfoldable pub default_string : Parser Span
default_string = string_with default_escape
