-- Runs of bytes as parsers, and a tag of two bytes: nom's combinators under their names.
use Rattle.std.specs.Prelude.{ℕ, ◌+◌, Bool, true, false, ◌&&◌, List, [], ◌∷◌, eqb, length}
use Rattle.lexing.specs.bytes.{list_take_while, list_drop_while}
use Rattle.lexing.specs.reply.{ok, fail, Parser}

-- `take_while`: the longest run of bytes that pass a test; the value is the run
unfoldable pub take_while : (ℕ → Bool) → Parser (List ℕ)
take_while f = λ b u. ok (list_take_while f u) (b + length (list_take_while f u)) (list_drop_while f u)

-- `take_while1`: a run of at least one byte
unfoldable pub take_while1 : (ℕ → Bool) → Parser (List ℕ)
take_while1 f b [] = fail b
take_while1 f b (x ∷ u) = elim (f x) [ true ↦ take_while f b (x ∷ u) | false ↦ fail b ]

-- `tag` of two bytes
unfoldable pub tag2 : ℕ → ℕ → Parser (Unit {0})
tag2 s t b [] = fail b
tag2 s t b (x ∷ []) = fail b
tag2 s t b (x ∷ y ∷ u) = elim (eqb x s && eqb y t) [ true ↦ ok tt (b + 2) u | false ↦ fail b ]
