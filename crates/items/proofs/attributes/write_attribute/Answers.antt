use mathlib.Core.Path.{refl}
use Prim.Native.Nat.{◌+◌}
use native.Mathlib.Omega.{arith}
use Rattle.items.specs.answers.{front_of}
use Rattle.lexing.proofs.AnswerLaws.{read_lost}
use Rattle.items.proofs.Headed.{headed_found, headed_room, headed_written}
use Rattle.items.proofs.writing.Laws.{no_room, written_same}
use Rattle.items.proofs.fields.Laws.{closed_field_on, struct_between_wider}
use Rattle.items.proofs.attributes.Laws.{attribute_head_took, attribute_headed, attribute_first_is, field_counted, field_room, field_written}
use Rattle.items.proofs.attributes.write_attribute.Goals as goal

pub returns-in_default : goal.returns-in_default
returns-in_default c = absurd (headed_found attribute_headed (front_of c.args.front) c.requires.room _ (read_lost c.in_default.ensures))

pub rest_at-requires : goal.rest_at-requires
rest_at-requires c = omega (arith, (attribute_head_took c.in-Ok.ensures).up, (attribute_head_took c.in-Ok.ensures).inside)

pub returns-in_default-closed_field : goal.returns-in_default-closed_field
returns-in_default-closed_field c = absurd (no_room (headed_room attribute_headed (front_of c.args.front) c.requires.room closed_field_on (attribute_head_took c.in-Ok.ensures) c.rest_at.ensures) _ (read_lost c.in_default-closed_field.ensures))

pub put_field-requires : goal.put_field-requires
put_field-requires c = let z = (field_room c.in-Ok-closed_field.ensures (headed_room attribute_headed (front_of c.args.front) c.requires.room closed_field_on (attribute_head_took c.in-Ok.ensures) c.rest_at.ensures)) in let k = field_counted c.in-Ok-closed_field.ensures c.rest_at.ensures in record { field_kind_in_bounds = omega (arith, z); struct_field_between = struct_between_wider (omega arith) (omega (arith, k.step.inside, c.requires.part_bound)) c.in-Ok-closed_field.ensures.within }

pub put_attribute-requires-clause-attribute_kind_in_bounds : goal.put_attribute-requires-clause-attribute_kind_in_bounds
put_attribute-requires-clause-attribute_kind_in_bounds c = let r = (headed_room attribute_headed (front_of c.args.front) c.requires.room closed_field_on (attribute_head_took c.in-Ok.ensures) c.rest_at.ensures) in let z = field_room c.in-Ok-closed_field.ensures r in let y = written_same r (field_written c.in-Ok-closed_field.ensures (c.args.at + 48) (omega arith) c.put_field.ensures) refl in omega (arith, z, y)

pub returns : goal.returns
returns c = (headed_written attribute_headed (front_of c.args.front) c.requires.room closed_field_on (attribute_head_took c.in-Ok.ensures) c.rest_at.ensures (field_written c.in-Ok-closed_field.ensures (c.args.at + 48) (omega arith) c.put_field.ensures) refl (attribute_first_is c.args.front _ _) c.put_attribute.ensures)
