use Rattle.lexing.proofs.AnswerLaws.{read_lost}
use Rattle.lexing.proofs.Losses.{passed_on}
use native.Mathlib.Omega.{arith}
use Rattle.lexing.proofs.Slicing.{rest_self}
use Rattle.items.proofs.Headed.{headed_lost, headed_pass, headed_counted}
use Rattle.items.proofs.Locality.{struct_head_consumes}
use Rattle.items.proofs.counts.Laws.{count_took, count_lost}
use Rattle.items.proofs.structs.Laws.{head_took, struct_headed}
use Rattle.items.proofs.fields.Laws.{struct_fields_on}
use Rattle.items.proofs.structs.count_struct.Goals as goal

pub struct_head-requires : goal.struct_head-requires
struct_head-requires c = record { part_bound = c.requires.part_bound; struct_from = c.requires.struct_from }

pub returns-in_err-c1 : goal.returns-in_err-c1
returns-in_err-c1 c = rw (passed_on c.from_residual.ensures) (headed_lost struct_headed _ (read_lost c.in_err-c1.ensures))

pub rest_at-requires : goal.rest_at-requires
rest_at-requires c = omega (arith, (head_took (rest_self _ _) c.in_ok-c1.ensures).up, (head_took (rest_self _ _) c.in_ok-c1.ensures).inside)

pub returns-in_err-n : goal.returns-in_err-n
returns-in_err-n c = rw (passed_on c.from_residual-in_err-n.ensures) (headed_pass struct_headed (head_took (rest_self _ _) c.in_ok-c1.ensures) _ c.rest_at.ensures (count_lost _ _ c.in_err-n.ensures))

pub overflow_add-result : goal.overflow_add-result
overflow_add-result c = let k = (count_took struct_fields_on c.rest_at.ensures c.in_ok-n.ensures) in omega (arith, k.few, k.step.inside, c.requires.part_bound)

pub returns : goal.returns
returns c = headed_counted struct_headed (head_took (rest_self _ _) c.in_ok-c1.ensures) struct_head_consumes (omega arith) (count_took struct_fields_on c.rest_at.ensures c.in_ok-n.ensures)
