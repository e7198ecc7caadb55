-- What the private functions of the readers of maturities promise.
use Rattle.std.specs.Prelude.{ℕ, ◌≡◌, Bool, ◌||◌, List, eqb}
use Rattle.lexing.specs.bytes.{byte}
use Rattle.lexing.specs.reply.{ret, ◌or◌}
use Rattle.lexing.specs.answers.{got, reply}
use Rattle.items.specs.answers.{maturity_number}
use Rattle.items.specs.inner.levels.{numbered}
use Rattle.items.specs.declared.maturity.Maturity.{Maturity}

-- whether a maturity begins with a letter
abbrev pub is_initial : ℕ → Bool
is_initial x = eqb x (byte "s") || eqb x (byte "p") || eqb x (byte "i") || eqb x (byte "d")

-- a maturity that a keyword k says, or that of no word
abbrev pub MaturityBy : List ℕ → Maturity → Maturity × ℕ → ℕ → List ℕ → Type 0
MaturityBy k v r b u = reply (got (maturity_number r.0) r.1) b u ≡ (numbered k (maturity_number v) or ret 0) b u
