-- Known answers of utf8_error, from the Unicode Standard's table 3-7 and the characters at its edges.
use mathlib.Core.Path.{◌≡◌, refl}
use Rattle.std.specs.Prelude.{Option, None, Some}
use mathlib.Core.List.{List, [], ◌∷◌}
use Prim.Native.Nat.{ℕ}
use Rattle.lexing.specs.bytes.{within}
use Rattle.lexing.specs.utf8.{has, table, following, awaiting, begun, step, run, fault, utf8_error}

-- the base, the bytes, and the place of the fault
pub data Case : Type 0 where
  case : ℕ → List ℕ → Option ℕ → Case

unfoldable pub cases : List Case
cases =
    case 0 [] None ∷
    -- ASCII: "Az", U+0000, U+007F
    case 0 (0x41 ∷ 0x7a ∷ []) None ∷
    case 0 (0x00 ∷ 0x7f ∷ []) None ∷
    -- U+0080, U+07FF
    case 0 (0xc2 ∷ 0x80 ∷ []) None ∷
    case 0 (0xdf ∷ 0xbf ∷ []) None ∷
    -- U+0800, U+FFFF
    case 0 (0xe0 ∷ 0xa0 ∷ 0x80 ∷ []) None ∷
    case 0 (0xef ∷ 0xbf ∷ 0xbf ∷ []) None ∷
    -- U+10000, U+10FFFF
    case 0 (0xf0 ∷ 0x90 ∷ 0x80 ∷ 0x80 ∷ []) None ∷
    case 0 (0xf4 ∷ 0x8f ∷ 0xbf ∷ 0xbf ∷ []) None ∷
    -- overlong
    case 0 (0xc0 ∷ 0x80 ∷ []) (Some 0) ∷
    case 0 (0xc1 ∷ 0xbf ∷ []) (Some 0) ∷
    case 0 (0xe0 ∷ 0x9f ∷ 0xbf ∷ []) (Some 0) ∷
    case 0 (0xf0 ∷ 0x8f ∷ 0xbf ∷ 0xbf ∷ []) (Some 0) ∷
    -- the surrogates U+D800 to U+DFFF, with U+D7FF and U+E000 at their sides
    case 0 (0xed ∷ 0x9f ∷ 0xbf ∷ []) None ∷
    case 0 (0xed ∷ 0xa0 ∷ 0x80 ∷ []) (Some 0) ∷
    case 0 (0xed ∷ 0xbf ∷ 0xbf ∷ []) (Some 0) ∷
    case 0 (0xee ∷ 0x80 ∷ 0x80 ∷ []) None ∷
    -- above U+10FFFF
    case 0 (0xf4 ∷ 0x90 ∷ 0x80 ∷ 0x80 ∷ []) (Some 0) ∷
    case 0 (0xf5 ∷ 0x80 ∷ 0x80 ∷ 0x80 ∷ []) (Some 0) ∷
    -- no first byte
    case 0 (0x80 ∷ []) (Some 0) ∷
    case 0 (0xfe ∷ []) (Some 0) ∷
    case 0 (0xff ∷ []) (Some 0) ∷
    -- cut off: by the end, and by another character
    case 0 (0xe2 ∷ 0x82 ∷ []) (Some 0) ∷
    case 0 (0x41 ∷ 0xe2 ∷ 0x82 ∷ 0x41 ∷ []) (Some 1) ∷
    -- after two characters, U+20AC and U+00E9; the first of two faults
    case 0 (0xe2 ∷ 0x82 ∷ 0xac ∷ 0xc3 ∷ 0xa9 ∷ 0xed ∷ 0xa0 ∷ 0x80 ∷ []) (Some 5) ∷
    case 0 (0x41 ∷ 0xff ∷ 0x80 ∷ []) (Some 1) ∷
    -- another base
    case 100 (0xe2 ∷ 0x82 ∷ 0xac ∷ []) None ∷
    case 100 (0xe2 ∷ 0x82 ∷ 0xac ∷ 0x80 ∷ []) (Some 103) ∷
    []

unfoldable pub expected : List Case → List (Option ℕ)
expected [] = []
expected (case b u o ∷ l) = o ∷ expected l

unfoldable pub answered : List Case → List (Option ℕ)
answered [] = []
answered (case b u o ∷ l) = utf8_error b u ∷ answered l

pub known_answers : answered cases ≡ expected cases
unfolding cases expected answered utf8_error run step following table has within awaiting begun fault
known_answers = refl
