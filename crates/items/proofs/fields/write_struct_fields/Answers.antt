use Rattle.items.specs.structs.{fields_run, struct_fields}
use Rattle.items.proofs.fields.Laws.{fields_repeat}
use Rattle.items.proofs.fields.write_struct_fields.Goals as goal

pub write_braced-requires-clause-repeats : goal.write_braced-requires-clause-repeats
write_braced-requires-clause-repeats c = fields_repeat

pub write_braced-requires-clause-room : goal.write_braced-requires-clause-room
unfolding fields_run struct_fields
write_braced-requires-clause-room c = c.requires.room

pub returns : goal.returns
unfolding fields_run struct_fields
returns c = c.write_braced.ensures
