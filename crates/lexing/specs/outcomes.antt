-- What a call that fills a buffer comes to: document 01's refusals and acceptance.
use Rattle.std.specs.Prelude.{ℕ, ◌≡◌, Bool, true, false, ◌||◌, List, [], ◌∷◌, ◌++◌, leb, eqb, length, drop}

-- refused by a number with the value that goes with it, or the bytes written
pub data Outcome : Type 0 where
  refused : ℕ → ℕ → Outcome
  written : List ℕ → Outcome

-- bytes for a buffer of n bytes: where they are more than n, refused by a number with the bytes needed
unfoldable pub fitted : ℕ → ℕ → List ℕ → Outcome
fitted number n l = elim (leb (length l) n) [ true ↦ written l | false ↦ refused number (length l) ]

-- the number and the value returned: 0 and the count of the bytes written where nothing is refused
unfoldable pub returned : Outcome → ℕ × ℕ
returned (refused number v) = (number, v)
returned (written l) = (0, length l)

-- what the buffer holds afterwards: a refusal leaves it as it was, acceptance keeps what is after the bytes written
unfoldable pub afterwards : Outcome → List ℕ → List ℕ
afterwards (refused number v) buffer = buffer
afterwards (written l) buffer = l ++ drop (length l) buffer

-- Document 01's numbers of refusals that a text meets: where the Rust panics; in a part of it, 2 not UTF-8 and 3 no item; of the whole, 1 its limit.
abbrev pub stop_numbers : List ℕ
stop_numbers = 4 ∷ 5 ∷ 6 ∷ []

abbrev pub part_numbers : List ℕ
part_numbers = 2 ∷ 3 ∷ stop_numbers

abbrev pub text_numbers : List ℕ
text_numbers = 1 ∷ part_numbers

abbrev pub among : ℕ → List ℕ → Bool
among n [] = false
among n (k ∷ ks) = eqb n k || among n ks

abbrev pub Among : List ℕ → ℕ → Type 0
Among ks n = among n ks ≡ true
