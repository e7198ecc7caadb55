use mathlib.Core.Path.{refl}
use native.Mathlib.Omega.{arith}
use Rattle.lexing.proofs.Slicing.{rest_self}
use Rattle.items.specs.answers.{front_of}
use Rattle.lexing.proofs.AnswerLaws.{read_lost}
use Rattle.items.proofs.Headed.{headed_found, headed_room, headed_written}
use Rattle.items.proofs.writing.Laws.{written_same}
use Rattle.items.proofs.fields.Laws.{struct_fields_on}
use Rattle.items.proofs.events.Laws.{event_head_took, event_headed, event_first_is}
use Rattle.items.proofs.events.write_event.Goals as goal

pub returns-in_default : goal.returns-in_default
returns-in_default c = absurd (headed_found event_headed (front_of c.args.front) c.requires.room c.in_default.field-0 (read_lost c.in_default.ensures))

pub rest_at-requires : goal.rest_at-requires
rest_at-requires c = omega (arith, (event_head_took (rest_self _ _) c.in-Ok.ensures).up, (event_head_took (rest_self _ _) c.in-Ok.ensures).inside)

pub write_struct_fields-w-requires-clause-room : goal.write_struct_fields-w-requires-clause-room
write_struct_fields-w-requires-clause-room c = headed_room event_headed (front_of c.args.front) c.requires.room struct_fields_on (event_head_took (rest_self _ _) c.in-Ok.ensures) c.rest_at.ensures

pub put_event-requires-clause-event_kind_in_bounds : goal.put_event-requires-clause-event_kind_in_bounds
put_event-requires-clause-event_kind_in_bounds c = let z = headed_room event_headed (front_of c.args.front) c.requires.room struct_fields_on (event_head_took (rest_self _ _) c.in-Ok.ensures) c.rest_at.ensures in omega (arith, z.fits, written_same z c.write_struct_fields-w.ensures refl)

pub returns : goal.returns
returns c = (headed_written event_headed (front_of c.args.front) c.requires.room struct_fields_on (event_head_took (rest_self _ _) c.in-Ok.ensures) c.rest_at.ensures c.write_struct_fields-w.ensures refl (event_first_is c.args.front _ c.args.part.now _ _ _ c.in-Ok.ensures.within (event_head_took (rest_self _ _) c.in-Ok.ensures).inside) c.put_event.ensures)
