use Rattle.items.specs.structs.{fields_run, struct_fields}
use Rattle.items.proofs.fields.Laws.{fields_repeat}
use Rattle.items.proofs.fields.count_struct_fields.Goals as goal

pub count_braced-requires-clause-repeats : goal.count_braced-requires-clause-repeats
count_braced-requires-clause-repeats c = fields_repeat

pub returns : goal.returns
unfolding fields_run struct_fields
returns c = c.count_braced.ensures
