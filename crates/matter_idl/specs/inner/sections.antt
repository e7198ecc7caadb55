-- Cuts by their places, and what the scan for the first of them promises.
use Rattle.std.specs.Prelude.{ℕ, ◌+◌, ◌-◌, ◌≤◌, ◌<◌, ◌≡◌, Bool, true, false, List, [], ◌∷◌, ◌++◌, eqb, length, take, drop, get_or}
use Rattle.matter_idl.specs.sections.{line_feed, cut_after, cut_from, sections}
use Rattle.matter_idl.specs.declared.sections.Section.{Section}

-- whether the byte before i is a line feed
abbrev pub after_line_feed : List ℕ → ℕ → Bool
after_line_feed u i = eqb (get_or u (i - 1) 0) line_feed

-- whether a cut is after the byte at i
abbrev pub cut_at : List ℕ → ℕ → Bool
cut_at u i = cut_after (after_line_feed u i) (get_or u i 0)

-- if r is false, no cut is after any of the n bytes from i on
pub record Cutless (r : Bool) (u : List ℕ) (i n : ℕ) : Type 0 where
  pub each : r ≡ false → (j : ℕ) → j < n → cut_at u (i + j) ≡ false

-- bytes that the first section begins with
unfoldable pub prefixed : List ℕ → List (List ℕ) → List (List ℕ)
prefixed xs [] = xs ∷ []
prefixed xs (s ∷ ss) = (xs ++ s) ∷ ss

-- what the bytes from i on are cut into
abbrev pub left_at : List ℕ → ℕ → List (List ℕ)
left_at u i = cut_from (after_line_feed u i) (drop i u)

-- the bytes before i hold no cut
pub record Uncut (u : List ℕ) (i : ℕ) : Type 0 where
  pub from : 1 ≤ i
  pub inside : i ≤ 1 + length u
  pub is : sections u ≡ prefixed (take i u) (left_at u i)

-- the sections after one: none if it is the last, else those of what is left
abbrev pub others : (last : Bool) → List ℕ → List (List ℕ)
others true u = []
others false u = sections u

-- s is the first section of u, which starts at b
pub record FirstSection (s : Section) (b : ℕ) (u : List ℕ) : Type 0 where
  pub from : b ≤ s.end
  pub onward : s.last ≡ false → b < s.end
  pub inside : s.end ≤ b + length u
  pub is : sections u ≡ take (s.end - b) u ∷ others s.last (drop (s.end - b) u)
