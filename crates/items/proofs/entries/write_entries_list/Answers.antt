use Rattle.items.specs.entries.{constant_entries, constant_entries_list}
use Rattle.items.proofs.entries.Laws.{entries_repeat}
use Rattle.items.proofs.entries.write_entries_list.Goals as goal

pub write_braced-requires-clause-repeats : goal.write_braced-requires-clause-repeats
write_braced-requires-clause-repeats c = entries_repeat

pub write_braced-requires-clause-room : goal.write_braced-requires-clause-room
unfolding constant_entries constant_entries_list
write_braced-requires-clause-room c = c.requires.room

pub returns : goal.returns
unfolding constant_entries constant_entries_list
returns c = c.write_braced.ensures
