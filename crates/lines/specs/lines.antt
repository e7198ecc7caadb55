-- A line, which ends before a line feed.
use Rattle.std.specs.Prelude.{ℕ, Bool, not, List, eqb}
use Rattle.lexing.specs.bytes.{lf, list_take_while}

-- no line feed
unfoldable pub no_feed : ℕ → Bool
no_feed x = not (eqb x lf)

-- the bytes before the next line feed
abbrev pub line : List ℕ → List ℕ
line u = list_take_while no_feed u
