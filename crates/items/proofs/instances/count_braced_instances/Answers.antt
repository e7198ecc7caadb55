use Rattle.lexing.proofs.Losses.{passed_on}
use native.Mathlib.Omega.{arith}
use Rattle.lexing.proofs.Slicing.{rest_self, tag_took}
use Rattle.items.specs.endpoints.{instance_tries}
use Rattle.items.proofs.Deep.{deep_uncounted, deep_counted}
use Rattle.items.proofs.instances.Laws.{instances_run_on}
use Rattle.items.proofs.instances.count_braced_instances.Goals as goal

pub returns-in_err-c : goal.returns-in_err-c
returns-in_err-c c = rw (passed_on c.from_residual.ensures) (deep_uncounted instance_tries _ _ _ c.in_err-c.ensures)

pub rest_at-requires : goal.rest_at-requires
rest_at-requires c = omega (arith, (tag_took (rest_self _ _) 123 c.in_ok-c.ensures).up, (tag_took (rest_self _ _) 123 c.in_ok-c.ensures).inside)

pub returns : goal.returns
returns c = deep_counted instance_tries _ _ instances_run_on (tag_took (rest_self _ _) 123 c.in_ok-c.ensures) c.rest_at.ensures c.count_instances.result c.count_instances.ensures
