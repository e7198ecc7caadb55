use Rattle.lexing.proofs.Losses.{passed_on}
use native.Mathlib.Omega.{arith}
use Rattle.lexing.proofs.Slicing.{rest_self}
use Rattle.lexing.proofs.AnswerLaws.{read_took, read_lost}
use Rattle.items.proofs.Headed.{headed_lost, headed_pass, headed_counted}
use Rattle.items.proofs.Locality.{cluster_head_consumes}
use Rattle.items.proofs.counts.Laws.{count_took, count_lost}
use Rattle.items.proofs.clusters.Whole.{braced_members_on, cluster_head_on, cluster_headed}
use Rattle.items.proofs.clusters.count_cluster.Goals as goal

pub returns-in_err-c1 : goal.returns-in_err-c1
returns-in_err-c1 c = rw (passed_on c.from_residual.ensures) (headed_lost cluster_headed _ (read_lost c.in_err-c1.ensures))

pub rest_at-requires : goal.rest_at-requires
rest_at-requires c = omega (arith, (read_took c.in_ok-c1.ensures cluster_head_on (rest_self _ _)).up, (read_took c.in_ok-c1.ensures cluster_head_on (rest_self _ _)).inside)

pub returns-in_err-n : goal.returns-in_err-n
returns-in_err-n c = rw (passed_on c.from_residual-in_err-n.ensures) (headed_pass cluster_headed (read_took c.in_ok-c1.ensures cluster_head_on (rest_self _ _)) _ c.rest_at.ensures (count_lost _ _ (c.in_err-n.ensures.counts 0)))

pub overflow_add-result : goal.overflow_add-result
overflow_add-result c = let k = (count_took braced_members_on c.rest_at.ensures (c.in_ok-n.ensures.counts 0)) in omega (arith, k.few, k.step.inside, c.requires)

pub returns : goal.returns
returns c = headed_counted cluster_headed (read_took c.in_ok-c1.ensures cluster_head_on (rest_self _ _)) cluster_head_consumes (omega arith) (count_took braced_members_on c.rest_at.ensures (c.in_ok-n.ensures.counts 0))
