use Rattle.lexing.proofs.Losses.{passed_on}
use native.Mathlib.Omega.{arith}
use Rattle.lexing.proofs.Slicing.{rest_self}
use Rattle.items.proofs.Headed.{headed_lost, headed_pass, headed_counted}
use Rattle.items.proofs.Locality.{endpoint_head_consumes}
use Rattle.items.proofs.counts.Laws.{count_took, count_lost}
use Rattle.lexing.proofs.names.Laws.{number_took}
use Rattle.items.proofs.endpoints.Laws.{parts_on, endpoint_head_on, endpoint_headed}
use Rattle.items.proofs.endpoints.count_endpoint.Goals as goal

pub returns-in_err-c1 : goal.returns-in_err-c1
returns-in_err-c1 c = rw (passed_on c.from_residual.ensures) ((headed_lost endpoint_headed _ c.in_err-c1.ensures).counts tt)

pub rest_at-requires : goal.rest_at-requires
rest_at-requires c = omega (arith, (number_took endpoint_head_on (rest_self _ _) c.in_ok-c1.ensures).up, (number_took endpoint_head_on (rest_self _ _) c.in_ok-c1.ensures).inside)

pub returns-in_err-n : goal.returns-in_err-n
returns-in_err-n c = rw (passed_on c.from_residual-in_err-n.ensures) ((headed_pass endpoint_headed (number_took endpoint_head_on (rest_self _ _) c.in_ok-c1.ensures) _ c.rest_at.ensures (count_lost _ _ c.in_err-n.ensures)).counts tt)

pub overflow_add-result : goal.overflow_add-result
overflow_add-result c = let k = (count_took parts_on c.rest_at.ensures c.in_ok-n.ensures) in omega (arith, k.few, k.step.inside, c.requires)

pub returns : goal.returns
returns c = (headed_counted endpoint_headed (number_took endpoint_head_on (rest_self _ _) c.in_ok-c1.ensures) endpoint_head_consumes (omega arith) (count_took parts_on c.rest_at.ensures c.in_ok-n.ensures)).counts tt
