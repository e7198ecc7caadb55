-- What a call from C answers: an offset, or the largest number where nothing is read.
use Rattle.std.specs.Prelude.{ℕ, true, false, List}
use Rattle.lexing.specs.reply.{Reply, ok, fail, stop}
use Rattle.lexing.specs.integers.{u64_max}
use Rattle.lexing.specs.words.{is_key, keyword}

-- the offset after what is read
unfoldable pub following : {A : Type 0} → Reply A → ℕ
following (ok a c u) = c
following (fail p) = u64_max
following (stop n p) = u64_max

-- the offset after a keyword at the front of a text; bytes that are no keyword are not looked for
unfoldable pub after_keyword : List ℕ → List ℕ → ℕ
after_keyword k u = elim (is_key k) [ true ↦ following (keyword k 0 u) | false ↦ u64_max ]
