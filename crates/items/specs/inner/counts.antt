-- What the ends of a count promise, whatever ends all reading.
use Rattle.lexing.specs.declared.answers.LostBy.TheVariants.{Fail, Stop}
use Rattle.std.specs.Prelude.{ℕ, max, ◌≤◌, ◌+◌, ◌≡◌, List, length, Result, Ok, Err}
use Rattle.lexing.specs.bytes.{byte}
use Rattle.lexing.specs.words.{tag}
use Rattle.lexing.specs.answers.{SkipsAt, after_blanks, Read, Step}
use Rattle.lexing.specs.declared.answers.LostBy.{LostBy}

-- what is lost, its place no nearer than the furthest so far
abbrev pub lost_no_earlier : {R : Type 0} → LostBy R → ℕ → LostBy R
lost_no_earlier (Fail p) q = Fail (max p q)
lost_no_earlier (Stop n p) q = Stop n p

-- a count that fails no earlier than at q
abbrev pub fail_no_earlier : {R : Type 0} → Result (ℕ × ℕ) (LostBy R) → ℕ → Result (ℕ × ℕ) (LostBy R)
fail_no_earlier (Ok r) q = Ok r
fail_no_earlier (Err l) q = Err (lost_no_earlier l q)

-- what was counted ends inside the part
abbrev pub EndsIn : {R : Type 0} → Result (ℕ × ℕ) (LostBy R) → ℕ → List ℕ → Type 0
EndsIn (Ok r) b u = (b ≤ r.1) × (r.1 ≤ b + length u)
EndsIn (Err l) b u = Unit {0}

-- n words, by what the closing brace answers
abbrev pub closed_count : ℕ → Step → Read ℕ
closed_count n (Ok c) = Ok (n, c)
closed_count n (Err l) = Err l

-- the same, whatever ends all reading: a closing brace never stops
abbrev pub closed_by : {R : Type 0} → ℕ → Step → Result (ℕ × ℕ) (LostBy R)
closed_by n (Ok c) = Ok (n, c)
closed_by n (Err (Fail p)) = Err (Fail p)
closed_by n (Err (Stop i p)) = Err (Fail p)

-- n words up to c, and the closing brace after blanks
pub record Closing {R : Type 0} (n c : ℕ) (r : Result (ℕ × ℕ) (LostBy R)) (b : ℕ) (u : List ℕ) : Type 0 where
  pub close : Step
  pub skips : SkipsAt (after_blanks (tag (byte "}"))) close b u c
  pub is : r ≡ closed_by n close

-- the same of a count, which may be lost
abbrev pub ClosedTo : {R : Type 0} → Result (ℕ × ℕ) (LostBy R) → Result (ℕ × ℕ) (LostBy R) → ℕ → List ℕ → Type 0
ClosedTo (Ok n) r b u = Closing n.0 n.1 r b u
ClosedTo (Err l) r b u = r ≡ Err l
