-- What the private functions of the readers of strings promise.
use Rattle.std.specs.Prelude.{ℕ, ◌+◌, ◌-◌, ◌≤◌, ◌<◌, ◌≡◌, false, List, length, drop, Result, Ok, Err}
use Rattle.lexing.specs.strings.{Escape, allowed, forbidden, panics, string_rest}
use Rattle.lexing.specs.answers.{reply, step_answer, Lost}
use Rattle.lexing.specs.declared.strings.Escaped.{Escaped}
use Rattle.lexing.specs.declared.strings.Escaped.TheVariants.{Allowed, Forbidden, Panics}
use Rattle.lexing.specs.declared.strings.Piece.{Piece}
use Rattle.lexing.specs.declared.strings.Piece.TheVariants.{More, Last}

abbrev pub escape_of : Escaped → Escape
escape_of Allowed = allowed
escape_of Forbidden = forbidden
escape_of Panics = panics

-- the answers R of a closure at bytes are those of a definition
abbrev pub IsEscape : (ℕ → Escaped → Type 0) → (ℕ → Escape) → Type 0
IsEscape R f = (x : ℕ) (r : Escaped) → R x r → escape_of r ≡ f x

-- the string goes on after a piece, or ends; the value is the closing quote's offset
abbrev pub piece_is : (ℕ → Escape) → ℕ → List ℕ → Result Piece Lost → Type 0
piece_is f b u (Ok (More c)) = string_rest f false b u ≡ string_rest f false c (drop (c - b) u)
piece_is f b u (Ok (Last c)) = reply (step_answer (λ c. c - 1) (Ok c)) b u ≡ string_rest f false b u
piece_is f b u (Err l) = reply (step_answer (λ c. c - 1) (Err l)) b u ≡ string_rest f false b u

-- where the string goes on, a byte or more has been read
abbrev pub piece_inside : ℕ → List ℕ → Result Piece Lost → Type 0
piece_inside b u (Ok (More c)) = (b < c) × (c ≤ b + length u)
piece_inside b u (Ok (Last c)) = Unit {0}
piece_inside b u (Err l) = Unit {0}
