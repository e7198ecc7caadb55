-- What a call from C returns.
use Rattle.std.specs.Prelude.{ℕ, ◌+◌, ◌*◌, true, false, List, leb, length}
use Rattle.lexing.specs.outcomes.{Outcome, refused, returned}
use Rattle.lexing.specs.unescaping.{outcome}

-- 2^56, and the largest value below it
abbrev pub number_unit : ℕ
number_unit = 72057594037927936

abbrev pub value_limit : ℕ
value_limit = 72057594037927935

-- number * 2^56 + value
unfoldable pub answer_of : Outcome → ℕ
answer_of o = (returned o).0 * number_unit + (returned o).1

-- unescaping: a part whose length is no value, and so longer than any machine can lend, is refused by 1
unfoldable pub unescaping : List ℕ → ℕ → Outcome
unescaping u n = elim (leb (length u) value_limit) [ true ↦ outcome u n | false ↦ refused 1 value_limit ]

-- the number of the layouts that catalogue and report are in
abbrev pub format : ℕ
format = 2
