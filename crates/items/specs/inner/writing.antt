-- The room that the writers of records ask for.
use Rattle.std.specs.Prelude.{ℕ, ◌+◌, ◌*◌, get_or}
use Rattle.items.specs.records.{further_counts}
use Rattle.items.specs.layout.{head_words}

-- the bytes of a record of a kind; it is no `words_of_kind`, which has to be unfolded, so that it computes where a kind is named
abbrev pub room_for : ℕ → ℕ
room_for k = 8 * (head_words + get_or further_counts k 0)
