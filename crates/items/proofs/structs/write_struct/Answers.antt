use Rattle.lexing.proofs.AnswerLaws.{read_lost}
use mathlib.Core.Path.{refl}
use native.Mathlib.Omega.{arith}
use Rattle.lexing.proofs.Slicing.{rest_self}
use Rattle.items.specs.answers.{front_of}
use Rattle.items.proofs.Headed.{headed_found, headed_room, headed_written}
use Rattle.items.proofs.writing.Laws.{written_same}
use Rattle.items.proofs.structs.Laws.{head_took, struct_headed, struct_first_is, head_in_limit}
use Rattle.items.proofs.fields.Laws.{struct_fields_on}
use Rattle.items.proofs.structs.write_struct.Goals as goal

pub struct_head-requires : goal.struct_head-requires
struct_head-requires c = record { part_bound = c.requires.part_bound; struct_from = c.requires.struct_from }

pub returns-in_default : goal.returns-in_default
returns-in_default c = absurd (headed_found struct_headed (front_of c.args.front) c.requires.room c.in_default.field-0 (read_lost c.in_default.ensures))

pub rest_at-requires : goal.rest_at-requires
rest_at-requires c = omega (arith, (head_took (rest_self _ _) c.in-Ok.ensures).up, (head_took (rest_self _ _) c.in-Ok.ensures).inside)

pub overflow_add-at : goal.overflow_add-at
overflow_add-at c = let z = (headed_room struct_headed (front_of c.args.front) c.requires.room struct_fields_on (head_took (rest_self _ _) c.in-Ok.ensures) c.rest_at.ensures) in omega (arith, z.fits)

pub write_struct_fields-w-requires : goal.write_struct_fields-w-requires
write_struct_fields-w-requires c = record { part_bound = omega (arith, c.rest_at.ensures.size, c.requires.part_bound); room = (headed_room struct_headed (front_of c.args.front) c.requires.room struct_fields_on (head_took (rest_self _ _) c.in-Ok.ensures) c.rest_at.ensures) }

pub put_struct-requires : goal.put_struct-requires
put_struct-requires c = let z = (headed_room struct_headed (front_of c.args.front) c.requires.room struct_fields_on (head_took (rest_self _ _) c.in-Ok.ensures) c.rest_at.ensures) in let y = written_same z c.write_struct_fields-w.ensures refl in record { struct_kind_in_bounds = omega (arith, z.fits, y); front_fits = c.requires.front_fits; head_between = head_in_limit c.in-Ok.ensures.within (omega (arith, (head_took (rest_self _ _) c.in-Ok.ensures).inside, c.requires.part_bound)) }

pub returns : goal.returns
returns c = (headed_written struct_headed (front_of c.args.front) c.requires.room struct_fields_on (head_took (rest_self _ _) c.in-Ok.ensures) c.rest_at.ensures c.write_struct_fields-w.ensures refl (struct_first_is c.args.front _ c.args.part.now _ _ _ c.in-Ok.ensures.within (head_took (rest_self _ _) c.in-Ok.ensures).inside) c.put_struct.ensures)
