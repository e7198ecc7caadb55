use Rattle.lexing.proofs.Losses.{passed_on}
use native.Mathlib.Omega.{arith}
use Rattle.lexing.proofs.Slicing.{rest_self}
use Rattle.lexing.proofs.AnswerLaws.{read_lost}
use Rattle.items.proofs.Headed.{headed_lost, headed_pass, headed_counted}
use Rattle.items.proofs.Locality.{instantiation_head_consumes}
use Rattle.items.proofs.counts.Laws.{count_took, count_lost}
use Rattle.lexing.proofs.names.Laws.{named_took}
use Rattle.items.proofs.instances.Laws.{instances_on, instantiation_head_on, instantiation_headed}
use Rattle.items.proofs.instances.count_cluster_instantiation.Goals as goal

pub returns-in_err-c1 : goal.returns-in_err-c1
returns-in_err-c1 c = rw (passed_on c.from_residual.ensures) ((headed_lost instantiation_headed _ (read_lost c.in_err-c1.ensures)).counts tt)

pub rest_at-requires : goal.rest_at-requires
rest_at-requires c = omega (arith, (named_took c.in_ok-c1.ensures instantiation_head_on (rest_self _ _)).up, (named_took c.in_ok-c1.ensures instantiation_head_on (rest_self _ _)).inside)

pub returns-in_err-n : goal.returns-in_err-n
returns-in_err-n c = rw (passed_on c.from_residual-in_err-n.ensures) ((headed_pass instantiation_headed (named_took c.in_ok-c1.ensures instantiation_head_on (rest_self _ _)) _ c.rest_at.ensures (count_lost _ _ c.in_err-n.ensures)).counts tt)

pub overflow_add-result : goal.overflow_add-result
overflow_add-result c = let k = (count_took instances_on c.rest_at.ensures c.in_ok-n.ensures) in omega (arith, k.few, k.step.inside, c.requires)

pub returns : goal.returns
returns c = (headed_counted instantiation_headed (named_took c.in_ok-c1.ensures instantiation_head_on (rest_self _ _)) instantiation_head_consumes (omega arith) (count_took instances_on c.rest_at.ensures c.in_ok-n.ensures)).counts tt
