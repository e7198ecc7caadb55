use Rattle.items.specs.entries.{constant_entries, constant_entries_list}
use Rattle.items.proofs.entries.Laws.{entries_repeat}
use Rattle.items.proofs.entries.count_entries_list.Goals as goal

pub count_braced-requires-clause-repeats : goal.count_braced-requires-clause-repeats
count_braced-requires-clause-repeats c = entries_repeat

pub returns : goal.returns
unfolding constant_entries constant_entries_list
returns c = c.count_braced.ensures
