use mathlib.Core.Path.{refl}
use native.Mathlib.Omega.{arith}
use Rattle.lexing.proofs.Slicing.{rest_self, rest_from}
use Rattle.items.specs.endpoints.{instance_tries}
use Rattle.lexing.proofs.AnswerLaws.{read_lost}
use Rattle.items.proofs.Headed.{headed_found, headed_room, headed_written}
use Rattle.items.proofs.writing.Laws.{written_same}
use Rattle.lexing.proofs.names.Laws.{named_in, named_took}
use Rattle.items.proofs.Placed.{rest_inner, opened, opened_room, opened_written}
use Rattle.items.proofs.instances.Laws.{instances_on, instances_run_on, instantiation_head_on, instantiation_headed, instantiation_first_is, name_in_limit}
use Rattle.items.proofs.instances.write_cluster_instantiation.Goals as goal

pub returns-in_default : goal.returns-in_default
returns-in_default c = absurd (headed_found instantiation_headed tt c.requires.room c.in_default.field-0 (read_lost c.in_default.ensures))

pub overflow_add-opened : goal.overflow_add-opened
overflow_add-opened c = omega (arith, (named_took c.in-Ok.ensures instantiation_head_on (rest_self _ _)).inside, c.requires.part_bound)

pub rest_at-requires : goal.rest_at-requires
rest_at-requires c = let o = opened instance_tries instances_run_on (headed_room instantiation_headed tt c.requires.room instances_on (named_took c.in-Ok.ensures instantiation_head_on (rest_self _ _)) (rest_from _ _ c.args.part.now (named_took c.in-Ok.ensures instantiation_head_on (rest_self _ _)).up (named_took c.in-Ok.ensures instantiation_head_on (rest_self _ _)).inside)) in let q = (rest_from _ _ c.args.part.now (named_took c.in-Ok.ensures instantiation_head_on (rest_self _ _)).up (named_took c.in-Ok.ensures instantiation_head_on (rest_self _ _)).inside) in omega (arith, (named_took c.in-Ok.ensures instantiation_head_on (rest_self _ _)).up, o.inside, q.size)

pub write_instances-wrote-requires : goal.write_instances-wrote-requires
write_instances-wrote-requires c = record { part_bound = omega (arith, c.rest_at.ensures.size, c.requires.part_bound); room = opened_room instance_tries instances_run_on (headed_room instantiation_headed tt c.requires.room instances_on (named_took c.in-Ok.ensures instantiation_head_on (rest_self _ _)) (rest_from _ _ c.args.part.now (named_took c.in-Ok.ensures instantiation_head_on (rest_self _ _)).up (named_took c.in-Ok.ensures instantiation_head_on (rest_self _ _)).inside)) (rest_inner (rest_from _ _ c.args.part.now (named_took c.in-Ok.ensures instantiation_head_on (rest_self _ _)).up (named_took c.in-Ok.ensures instantiation_head_on (rest_self _ _)).inside) c.rest_at.ensures (omega arith)) }

pub put_named-requires : goal.put_named-requires
put_named-requires c = let z = opened_room instance_tries instances_run_on (headed_room instantiation_headed tt c.requires.room instances_on (named_took c.in-Ok.ensures instantiation_head_on (rest_self _ _)) (rest_from _ _ c.args.part.now (named_took c.in-Ok.ensures instantiation_head_on (rest_self _ _)).up (named_took c.in-Ok.ensures instantiation_head_on (rest_self _ _)).inside)) (rest_inner (rest_from _ _ c.args.part.now (named_took c.in-Ok.ensures instantiation_head_on (rest_self _ _)).up (named_took c.in-Ok.ensures instantiation_head_on (rest_self _ _)).inside) c.rest_at.ensures (omega arith)) in let y = written_same z c.write_instances-wrote.ensures refl in record { binding_kind_in_bounds = omega (arith, z.fits, y); name_in = name_in_limit (named_in c.in-Ok.ensures) (omega (arith, (named_took c.in-Ok.ensures instantiation_head_on (rest_self _ _)).inside, c.requires.part_bound)) }

pub returns : goal.returns
returns c = (headed_written instantiation_headed tt c.requires.room instances_on (named_took c.in-Ok.ensures instantiation_head_on (rest_self _ _)) (rest_from _ _ c.args.part.now (named_took c.in-Ok.ensures instantiation_head_on (rest_self _ _)).up (named_took c.in-Ok.ensures instantiation_head_on (rest_self _ _)).inside) (opened_written instance_tries instances_run_on (headed_room instantiation_headed tt c.requires.room instances_on (named_took c.in-Ok.ensures instantiation_head_on (rest_self _ _)) (rest_from _ _ c.args.part.now (named_took c.in-Ok.ensures instantiation_head_on (rest_self _ _)).up (named_took c.in-Ok.ensures instantiation_head_on (rest_self _ _)).inside)) (rest_inner (rest_from _ _ c.args.part.now (named_took c.in-Ok.ensures instantiation_head_on (rest_self _ _)).up (named_took c.in-Ok.ensures instantiation_head_on (rest_self _ _)).inside) c.rest_at.ensures (omega arith)) c.write_instances-wrote.ensures) refl (instantiation_first_is _ c.args.part.now _ (named_in c.in-Ok.ensures) (named_took c.in-Ok.ensures instantiation_head_on (rest_self _ _)).inside) c.put_named.ensures)
