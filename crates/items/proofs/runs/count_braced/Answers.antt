use native.Mathlib.Omega.{arith}
use Rattle.lexing.proofs.Losses.{passed_on}
use Rattle.lexing.proofs.Locality.{chain_many0}
use Rattle.lexing.proofs.Slicing.{rest_self, tag_took, walks}
use Rattle.items.proofs.Braces.{braces_unopened, run_inside, braces_counted}
use Rattle.items.proofs.counts.Laws.{count_not}
use Rattle.items.proofs.runs.count_braced.Goals as goal

pub returns-in_err-c : goal.returns-in_err-c
returns-in_err-c g c = rw (passed_on c.from_residual.ensures) (count_not _ _ _ _ _ (braces_unopened _ _ _ _ c.in_err-c.ensures))

pub rest_at-requires : goal.rest_at-requires
rest_at-requires g c = let t = tag_took (rest_self _ _) 123 c.in_ok-c.ensures in omega (arith, t.up, t.inside)

pub closed-requires-clause-ends_in : goal.closed-requires-clause-ends_in
closed-requires-clause-ends_in g c = run_inside (walks (chain_many0 c.requires.repeats.chain)) (tag_took (rest_self _ _) 123 c.in_ok-c.ensures) c.rest_at.ensures _ c.count_run-run.ensures

pub returns : goal.returns
returns g c = braces_counted (walks (chain_many0 c.requires.repeats.chain)) (tag_took (rest_self _ _) 123 c.in_ok-c.ensures) c.rest_at.ensures _ _ c.count_run-run.ensures c.closed.ensures
