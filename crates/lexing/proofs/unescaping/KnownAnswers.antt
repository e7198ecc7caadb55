-- Known answers of unescaping.
use Prim.Native.Nat.{ℕ}
use mathlib.Core.Path.{◌≡◌, refl}
use mathlib.Core.List.{List, [], ◌∷◌, map}
use lib.ListN.{length}
use Rattle.lexing.specs.bytes.{tab, lf, quote, backslash}
use Rattle.lexing.specs.unescaping.{escapes, lookup, escaped, first, unescape_from, unescape, into, outcome}
use Rattle.lexing.specs.outcomes.{returned, afterwards, fitted}

-- the letters a, n, r, t, x
abbrev a : ℕ
a = 0x61

abbrev n : ℕ
n = 0x6e

abbrev r : ℕ
r = 0x72

abbrev t : ℕ
t = 0x74

abbrev x : ℕ
x = 0x78

-- a part, an output, and what is expected: number, value, the output afterwards
abbrev Case : Type 0
Case = List ℕ × List ℕ × ((ℕ × ℕ) × List ℕ)

-- what the definition answers
unfoldable pub answered : Case → (ℕ × ℕ) × List ℕ
answered c = let o = outcome c.0 (length c.1) in (returned o, afterwards o c.1)

unfoldable pub cases : List Case
cases =
    -- nothing, and bytes that pass
    ([], [], ((0, 0), []))
    ∷ ([], 7 ∷ [], ((0, 0), 7 ∷ []))
    ∷ (a ∷ x ∷ [], 7 ∷ 8 ∷ [], ((0, 2), a ∷ x ∷ []))
    ∷ (lf ∷ 0xff ∷ 0 ∷ [], 7 ∷ 8 ∷ 9 ∷ [], ((0, 3), lf ∷ 0xff ∷ 0 ∷ []))
    -- the four escapes
    ∷ (backslash ∷ quote ∷ [], 7 ∷ [], ((0, 1), quote ∷ []))
    ∷ (backslash ∷ backslash ∷ [], 7 ∷ [], ((0, 1), backslash ∷ []))
    ∷ (backslash ∷ n ∷ [], 7 ∷ [], ((0, 1), lf ∷ []))
    ∷ (backslash ∷ t ∷ [], 7 ∷ [], ((0, 1), tab ∷ []))
    -- after other bytes, at the end and before others
    ∷ (a ∷ backslash ∷ quote ∷ [], 7 ∷ 8 ∷ [], ((0, 2), a ∷ quote ∷ []))
    ∷ (a ∷ backslash ∷ backslash ∷ [], 7 ∷ 8 ∷ [], ((0, 2), a ∷ backslash ∷ []))
    ∷ (backslash ∷ backslash ∷ n ∷ [], 7 ∷ 8 ∷ [], ((0, 2), backslash ∷ n ∷ []))
    -- 9: a bare quote, a bad escape, a lone last backslash; the output is unchanged
    ∷ (a ∷ quote ∷ a ∷ [], 7 ∷ 8 ∷ 9 ∷ [], ((9, 1), 7 ∷ 8 ∷ 9 ∷ []))
    ∷ (a ∷ a ∷ backslash ∷ x ∷ [], 7 ∷ 8 ∷ 9 ∷ [], ((9, 2), 7 ∷ 8 ∷ 9 ∷ []))
    ∷ (backslash ∷ r ∷ [], 7 ∷ 8 ∷ [], ((9, 0), 7 ∷ 8 ∷ []))
    ∷ (backslash ∷ n ∷ backslash ∷ [], 7 ∷ 8 ∷ [], ((9, 2), 7 ∷ 8 ∷ []))
    ∷ (backslash ∷ backslash ∷ backslash ∷ [], 7 ∷ 8 ∷ [], ((9, 2), 7 ∷ 8 ∷ []))
    -- the first fault
    ∷ (backslash ∷ x ∷ quote ∷ [], 7 ∷ 8 ∷ [], ((9, 0), 7 ∷ 8 ∷ []))
    -- an output one byte short (10, unchanged), one that just holds the bytes, one that is longer
    ∷ (a ∷ backslash ∷ t ∷ x ∷ [], 7 ∷ 8 ∷ [], ((10, 3), 7 ∷ 8 ∷ []))
    ∷ (a ∷ backslash ∷ t ∷ x ∷ [], 7 ∷ 8 ∷ 9 ∷ [], ((0, 3), a ∷ tab ∷ x ∷ []))
    ∷ (a ∷ backslash ∷ t ∷ x ∷ [], 7 ∷ 8 ∷ 9 ∷ 5 ∷ 6 ∷ [], ((0, 3), a ∷ tab ∷ x ∷ 5 ∷ 6 ∷ []))
    -- a fault and a short output: 9 comes first
    ∷ (a ∷ a ∷ a ∷ quote ∷ [], 7 ∷ [], ((9, 3), 7 ∷ []))
    ∷ []

pub known_answers : map answered cases ≡ map (λ (c : Case). c.2) cases
unfolding answered cases escapes lookup escaped first unescape_from unescape into fitted outcome returned afterwards
known_answers = refl
