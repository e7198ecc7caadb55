-- A text cut into sections.
use Rattle.std.specs.Prelude.{ℕ, Bool, true, false, ◌&&◌, List, [], ◌∷◌, ◌++◌, eqb}

abbrev pub line_feed : ℕ
line_feed = 10

abbrev pub closing_brace : ℕ
closing_brace = 125

-- document 01's cut: it is after a byte x that is } and whose preceding byte is LF; p says of the preceding byte whether it is
unfoldable pub cut_after : Bool → ℕ → Bool
cut_after p x = p && eqb x closing_brace

unfoldable pub before_first : ℕ → List (List ℕ) → List (List ℕ)
before_first x [] = (x ∷ []) ∷ []
before_first x (s ∷ ss) = (x ∷ s) ∷ ss

unfoldable pub cut_from : Bool → List ℕ → List (List ℕ)
cut_from p [] = [] ∷ []
cut_from p (x ∷ u) = elim (cut_after p x) [ true ↦ (x ∷ []) ∷ cut_from false u | false ↦ before_first x (cut_from (eqb x line_feed) u) ]

-- the empty text is one empty section, and a text that ends at a cut has an empty last section
unfoldable pub sections : List ℕ → List (List ℕ)
sections u = cut_from false u

-- sections one after the other
unfoldable pub joined : List (List ℕ) → List ℕ
joined [] = []
joined (s ∷ ss) = s ++ joined ss
