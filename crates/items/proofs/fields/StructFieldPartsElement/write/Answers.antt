use native.Mathlib.Omega.{arith}
use Rattle.items.proofs.fields.Laws.{field_parts_is, struct_between_wider}
use Rattle.items.proofs.fields.StructFieldPartsElement.write.Goals as goal

pub put_field-requires-clause-struct_field_between : goal.put_field-requires-clause-struct_field_between
put_field-requires-clause-struct_field_between c = let w = c.requires.bounds in struct_between_wider (omega arith) (omega (arith, w.2, c.requires.part_bound)) w.1

pub returns : goal.returns
returns c = let w = c.requires.bounds in rw (← field_parts_is _ _ _ _ w.1 w.2) c.put_field.ensures
