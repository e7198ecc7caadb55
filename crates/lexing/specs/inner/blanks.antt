-- What the private functions of the readers of blanks promise.
use Rattle.std.specs.Prelude.{ℕ, ◌+◌, ◌≡◌, Bool, ◌&&◌, List, eqb, drop, Option, Some, None}
use Rattle.lexing.specs.bytes.{star, slash}
use Rattle.lexing.specs.reply.{Reply, fail}
use Rattle.lexing.specs.blanks.{Until, found, never, Doc}
use Rattle.lexing.specs.answers.{blank_reply}
use Rattle.lexing.specs.declared.blanks.Blank.{Blank}

-- `*/`
abbrev pub is_close : ℕ → ℕ → Bool
is_close x y = eqb x star && eqb y slash

-- where the search for `*/` ended
abbrev pub end_until : Option ℕ → List ℕ → Until
end_until (Some n) u = found n (drop (n + 2) u)
end_until None u = never

-- one turn of a run
abbrev pub turn_reply : Option Blank → ℕ → List ℕ → Reply Doc
turn_reply (Some r) b u = blank_reply r b u
turn_reply None b u = fail b

-- the answers R of a closure at bytes are those of a test
abbrev pub IsTest : (ℕ → Bool → Type 0) → (ℕ → Bool) → Type 0
IsTest R f = (x : ℕ) (r : Bool) → R x r → r ≡ f x
