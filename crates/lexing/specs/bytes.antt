-- Bytes by their names, classes of bytes, and runs of bytes of one class.
use Rattle.std.specs.Prelude.{ℕ, ◌+◌, ◌*◌, ◌-◌, Bool, true, false, ◌&&◌, ◌||◌, not, List, [], ◌∷◌, leb, eqb}
use Prim.Native.Char.{code}
use Prim.Native.String.{String, [] as nil, ◌∷◌ as ◌then◌}

-- ASCII
abbrev pub tab : ℕ
tab = 0x09

abbrev pub lf : ℕ
lf = 0x0a

abbrev pub cr : ℕ
cr = 0x0d

abbrev pub space : ℕ
space = 0x20

abbrev pub quote : ℕ
quote = 0x22

abbrev pub star : ℕ
star = 0x2a

abbrev pub plus : ℕ
plus = 0x2b

abbrev pub minus : ℕ
minus = 0x2d

abbrev pub slash : ℕ
slash = 0x2f

abbrev pub backslash : ℕ
backslash = 0x5c

abbrev pub underscore : ℕ
underscore = 0x5f

-- from a to z, both counted
unfoldable pub within : ℕ → ℕ → ℕ → Bool
within a z x = leb a x && leb x z

-- A to Z, a to z and `_`
unfoldable pub is_letter : ℕ → Bool
is_letter x = within 0x61 0x7a x || within 0x41 0x5a x || eqb x underscore

-- 0 to 9
unfoldable pub is_digit : ℕ → Bool
is_digit x = within 0x30 0x39 x

-- 0 to 9, a to f, A to F
unfoldable pub is_hex : ℕ → Bool
is_hex x = is_digit x || within 0x61 0x66 x || within 0x41 0x46 x

unfoldable pub is_word : ℕ → Bool
is_word x = is_letter x || is_digit x

-- nom's `multispace`: space, tab, LF, CR
unfoldable pub is_space : ℕ → Bool
is_space x = eqb x space || eqb x tab || eqb x lf || eqb x cr

-- no end of a line
unfoldable pub in_line : ℕ → Bool
in_line x = not (eqb x lf || eqb x cr)

-- ASCII upper case to lower case
unfoldable pub lower : ℕ → ℕ
lower x = elim (within 0x41 0x5a x) [ true ↦ x + 32 | false ↦ x ]

-- `take_while`: the longest run at the front that passes a test, and what follows it
unfoldable pub list_take_while : (ℕ → Bool) → List ℕ → List ℕ
list_take_while f [] = []
list_take_while f (x ∷ u) = elim (f x) [ true ↦ x ∷ list_take_while f u | false ↦ [] ]

unfoldable pub list_drop_while : (ℕ → Bool) → List ℕ → List ℕ
list_drop_while f [] = []
list_drop_while f (x ∷ u) = elim (f x) [ true ↦ list_drop_while f u | false ↦ x ∷ u ]

-- the value of a digit, and of a run of digits after those whose value is v
unfoldable pub digit : ℕ → ℕ
digit x = elim (is_digit x) [ true ↦ x - 0x30 | false ↦ elim (within 0x61 0x66 x) [ true ↦ x - 0x61 + 10 | false ↦ x - 0x41 + 10 ] ]

unfoldable pub number : ℕ → ℕ → List ℕ → ℕ
number radix v [] = v
number radix v (x ∷ u) = number radix (v * radix + digit x) u

-- the bytes of an ASCII text
abbrev pub ascii : String → List ℕ
ascii nil = []
ascii (◌then◌ c s) = code c ∷ ascii s

-- the first byte of an ASCII text, for a tag
abbrev pub byte : String → ℕ
byte nil = 0
byte (◌then◌ c s) = code c
