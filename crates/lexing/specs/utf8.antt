-- Well-formed UTF-8: the table of the Unicode Standard, and an automaton that reads bytes by it.
use Rattle.std.specs.Prelude.{ℕ, suc, Bool, true, false, List, [], ◌∷◌, Option, Some, None}
use Rattle.lexing.specs.bytes.{within}

infix 90 ◌to◌
-- the bytes from one to another, both counted
pub data Range : Type 0 where
  ◌to◌ : ℕ → ℕ → Range

-- whether a byte is in a range
unfoldable pub has : Range → ℕ → Bool
has (a to z) x = within a z x

-- the range of a character's first byte, and the ranges of the bytes after it
pub data Row : Type 0 where
  row : Range → List Range → Row

-- table 3-7 of the Unicode Standard, "Well-Formed UTF-8 Byte Sequences"
unfoldable pub table : List Row
table =
    row (0x00 to 0x7f) [] ∷
    row (0xc2 to 0xdf) (0x80 to 0xbf ∷ []) ∷
    row (0xe0 to 0xe0) (0xa0 to 0xbf ∷ 0x80 to 0xbf ∷ []) ∷
    row (0xe1 to 0xec) (0x80 to 0xbf ∷ 0x80 to 0xbf ∷ []) ∷
    row (0xed to 0xed) (0x80 to 0x9f ∷ 0x80 to 0xbf ∷ []) ∷
    row (0xee to 0xef) (0x80 to 0xbf ∷ 0x80 to 0xbf ∷ []) ∷
    row (0xf0 to 0xf0) (0x90 to 0xbf ∷ 0x80 to 0xbf ∷ 0x80 to 0xbf ∷ []) ∷
    row (0xf1 to 0xf3) (0x80 to 0xbf ∷ 0x80 to 0xbf ∷ 0x80 to 0xbf ∷ []) ∷
    row (0xf4 to 0xf4) (0x80 to 0x8f ∷ 0x80 to 0xbf ∷ 0x80 to 0xbf ∷ []) ∷
    []

-- the ranges of the bytes after a first byte, by the row that has it; none where no row has it
unfoldable pub following : List Row → ℕ → Option (List Range)
following [] x = None
following (row r rs ∷ rows) x = elim (has r x) [ true ↦ Some rs | false ↦ following rows x ]

-- between characters; inside one: the range of the next byte, those of the bytes after it, and the offset of the character's first byte;
-- or after an ill-formed sequence at an offset
pub data State : Type 0 where
  between : State
  inside : Range → List Range → ℕ → State
  ill : ℕ → State

-- bytes of these ranges are still to come of the character at an offset
unfoldable pub awaiting : List Range → ℕ → State
awaiting [] a = between
awaiting (r ∷ rs) a = inside r rs a

-- after the first byte, at an offset, of a character that has these ranges after it
unfoldable pub begun : Option (List Range) → ℕ → State
begun None a = ill a
begun (Some rs) a = awaiting rs a

-- the state after the byte x at the offset b
unfoldable pub step : ℕ → State → ℕ → State
step b between x = begun (following table x) b
step b (inside r rs a) x = elim (has r x) [ true ↦ awaiting rs a | false ↦ ill a ]
step b (ill a) x = ill a

-- the state after the bytes from the offset b on
unfoldable pub run : ℕ → State → List ℕ → State
run b t [] = t
run b t (x ∷ u) = run (suc b) (step b t x) u

-- the offset of the ill-formed sequence in a text that ends in a state; a character that is cut off is one
unfoldable pub fault : State → Option ℕ
fault between = None
fault (inside r rs a) = Some a
fault (ill a) = Some a

-- the offset of the first byte of the first ill-formed sequence, of bytes from the offset b on; none where they are well-formed
unfoldable pub utf8_error : ℕ → List ℕ → Option ℕ
utf8_error b u = fault (run b between u)
