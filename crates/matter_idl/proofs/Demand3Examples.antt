-- Replacements that demand 3 speaks of, on the text of document 01's case 12: a section changed, taken out, and two put in its place.
use Prim.Native.Nat.{ℕ}
use mathlib.Core.Path.{refl}
use mathlib.Core.List.{List, [], ◌∷◌}
use lib.Dec.{lit≤}
use Rattle.lexing.specs.bytes.{ascii}
use Rattle.matter_idl.specs.sections.{cut_after, before_first, cut_from, sections, joined}
use Rattle.matter_idl.specs.demand_3.{Replacement}

abbrev case_12 : List ℕ
case_12 = ascii "enum A:t{\n}\nenum B:t{\n}"

-- the first section's t by a question mark, so that it is refused
changed : Replacement case_12 (ascii "enum A:?{\n}\nenum B:t{\n}") [] (ascii "enum A:t{\n}") (ascii "\nenum B:t{\n}" ∷ [] ∷ []) (ascii "enum A:?{\n}") (ascii "enum A:?{\n}" ∷ [])
unfolding sections cut_from cut_after before_first joined
changed = record { old = refl; new = refl; unchanged = refl; short = lit≤ tt }

-- the second section by nothing
taken : Replacement case_12 (ascii "enum A:t{\n}") (ascii "enum A:t{\n}" ∷ []) (ascii "\nenum B:t{\n}") ([] ∷ []) [] []
unfolding sections cut_from cut_after before_first joined
taken = record { old = refl; new = refl; unchanged = refl; short = lit≤ tt }

-- the first section by bytes with two cuts, one section of which is no item
added : Replacement case_12 (ascii "x\n}cluster C=1{\n}\nenum B:t{\n}") [] (ascii "enum A:t{\n}") (ascii "\nenum B:t{\n}" ∷ [] ∷ []) (ascii "x\n}cluster C=1{\n}") (ascii "x\n}" ∷ ascii "cluster C=1{\n}" ∷ [])
unfolding sections cut_from cut_after before_first joined
added = record { old = refl; new = refl; unchanged = refl; short = lit≤ tt }

-- the empty last section by bytes without a cut
ended : Replacement case_12 (ascii "enum A:t{\n}\nenum B:t{\n}bogus") (ascii "enum A:t{\n}" ∷ ascii "\nenum B:t{\n}" ∷ []) [] [] (ascii "bogus") (ascii "bogus" ∷ [])
unfolding sections cut_from cut_after before_first joined
ended = record { old = refl; new = refl; unchanged = refl; short = lit≤ tt }
