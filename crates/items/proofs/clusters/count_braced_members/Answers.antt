use Rattle.lexing.proofs.Losses.{passed_on}
use native.Mathlib.Omega.{arith}
use Rattle.lexing.proofs.Slicing.{rest_self, tag_took}
use Rattle.items.proofs.Braces.{braces_unopened, run_inside, braces_counted}
use Rattle.items.proofs.counts.Laws.{count_not}
use Rattle.items.proofs.clusters.Laws.{members_on}
use Rattle.items.proofs.clusters.count_braced_members.Goals as goal

pub returns-in_err-c : goal.returns-in_err-c
returns-in_err-c c = rw (passed_on c.from_residual.ensures) (record { counts = λ p. count_not _ _ _ _ _ (braces_unopened _ _ _ _ c.in_err-c.ensures) })

pub rest_at-requires : goal.rest_at-requires
rest_at-requires c = let t = tag_took (rest_self _ _) 123 c.in_ok-c.ensures in omega (arith, t.up, t.inside)

pub closed-requires-clause-ends_in : goal.closed-requires-clause-ends_in
closed-requires-clause-ends_in c = run_inside members_on (tag_took (rest_self _ _) 123 c.in_ok-c.ensures) c.rest_at.ensures _ (c.count_members-run.ensures.counts 0)

pub returns : goal.returns
returns c = record { counts = λ p. braces_counted members_on (tag_took (rest_self _ _) 123 c.in_ok-c.ensures) c.rest_at.ensures _ _ (c.count_members-run.ensures.counts p) c.closed.ensures }
