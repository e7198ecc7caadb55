use mathlib.Core.Path.{refl}
use native.Mathlib.Omega.{arith}
use Rattle.lexing.proofs.Slicing.{rest_self, rest_from}
use Rattle.items.specs.endpoints.{part_tries}
use Rattle.items.proofs.Headed.{headed_found, headed_room, headed_written}
use Rattle.items.proofs.writing.Laws.{written_same}
use Rattle.lexing.proofs.names.Laws.{number_took}
use Rattle.items.proofs.Placed.{rest_inner, opened, opened_room, opened_written}
use Rattle.items.proofs.endpoints.Laws.{parts_on, parts_run_on, endpoint_head_on, endpoint_headed, endpoint_first_is}
use Rattle.items.proofs.endpoints.write_endpoint.Goals as goal

pub returns-in_default : goal.returns-in_default
returns-in_default c = absurd (headed_found endpoint_headed tt c.requires.room c.in_default.field-0 c.in_default.ensures)

pub overflow_add-opened : goal.overflow_add-opened
overflow_add-opened c = omega (arith, (number_took endpoint_head_on (rest_self _ _) c.in-Ok.ensures).inside, c.requires.part_bound)

pub rest_at-requires : goal.rest_at-requires
rest_at-requires c = let o = opened part_tries parts_run_on (headed_room endpoint_headed tt c.requires.room parts_on (number_took endpoint_head_on (rest_self _ _) c.in-Ok.ensures) (rest_from _ _ c.args.part.now (number_took endpoint_head_on (rest_self _ _) c.in-Ok.ensures).up (number_took endpoint_head_on (rest_self _ _) c.in-Ok.ensures).inside)) in let q = (rest_from _ _ c.args.part.now (number_took endpoint_head_on (rest_self _ _) c.in-Ok.ensures).up (number_took endpoint_head_on (rest_self _ _) c.in-Ok.ensures).inside) in omega (arith, (number_took endpoint_head_on (rest_self _ _) c.in-Ok.ensures).up, o.inside, q.size)

pub write_parts-wrote-requires : goal.write_parts-wrote-requires
write_parts-wrote-requires c = record { part_bound = omega (arith, c.rest_at.ensures.size, c.requires.part_bound); room = opened_room part_tries parts_run_on (headed_room endpoint_headed tt c.requires.room parts_on (number_took endpoint_head_on (rest_self _ _) c.in-Ok.ensures) (rest_from _ _ c.args.part.now (number_took endpoint_head_on (rest_self _ _) c.in-Ok.ensures).up (number_took endpoint_head_on (rest_self _ _) c.in-Ok.ensures).inside)) (rest_inner (rest_from _ _ c.args.part.now (number_took endpoint_head_on (rest_self _ _) c.in-Ok.ensures).up (number_took endpoint_head_on (rest_self _ _) c.in-Ok.ensures).inside) c.rest_at.ensures (omega arith)) }

pub put_endpoint-requires : goal.put_endpoint-requires
put_endpoint-requires c = let z = opened_room part_tries parts_run_on (headed_room endpoint_headed tt c.requires.room parts_on (number_took endpoint_head_on (rest_self _ _) c.in-Ok.ensures) (rest_from _ _ c.args.part.now (number_took endpoint_head_on (rest_self _ _) c.in-Ok.ensures).up (number_took endpoint_head_on (rest_self _ _) c.in-Ok.ensures).inside)) (rest_inner (rest_from _ _ c.args.part.now (number_took endpoint_head_on (rest_self _ _) c.in-Ok.ensures).up (number_took endpoint_head_on (rest_self _ _) c.in-Ok.ensures).inside) c.rest_at.ensures (omega arith)) in let y = written_same z c.write_parts-wrote.ensures refl in omega (arith, z.fits, y)

pub returns : goal.returns
returns c = (headed_written endpoint_headed tt c.requires.room parts_on (number_took endpoint_head_on (rest_self _ _) c.in-Ok.ensures) (rest_from _ _ c.args.part.now (number_took endpoint_head_on (rest_self _ _) c.in-Ok.ensures).up (number_took endpoint_head_on (rest_self _ _) c.in-Ok.ensures).inside) (opened_written part_tries parts_run_on (headed_room endpoint_headed tt c.requires.room parts_on (number_took endpoint_head_on (rest_self _ _) c.in-Ok.ensures) (rest_from _ _ c.args.part.now (number_took endpoint_head_on (rest_self _ _) c.in-Ok.ensures).up (number_took endpoint_head_on (rest_self _ _) c.in-Ok.ensures).inside)) (rest_inner (rest_from _ _ c.args.part.now (number_took endpoint_head_on (rest_self _ _) c.in-Ok.ensures).up (number_took endpoint_head_on (rest_self _ _) c.in-Ok.ensures).inside) c.rest_at.ensures (omega arith)) c.write_parts-wrote.ensures) refl (endpoint_first_is _ _) c.put_endpoint.ensures)
