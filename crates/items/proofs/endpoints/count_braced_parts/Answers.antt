use Rattle.lexing.proofs.Losses.{passed_on}
use native.Mathlib.Omega.{arith}
use Rattle.lexing.proofs.Slicing.{rest_self, tag_took}
use Rattle.items.specs.endpoints.{part_tries}
use Rattle.items.proofs.Deep.{deep_uncounted, deep_counted}
use Rattle.items.proofs.endpoints.Laws.{parts_run_on}
use Rattle.items.proofs.endpoints.count_braced_parts.Goals as goal

pub returns-in_err-c : goal.returns-in_err-c
returns-in_err-c c = rw (passed_on c.from_residual.ensures) (deep_uncounted part_tries _ _ _ c.in_err-c.ensures)

pub rest_at-requires : goal.rest_at-requires
rest_at-requires c = omega (arith, (tag_took (rest_self _ _) 123 c.in_ok-c.ensures).up, (tag_took (rest_self _ _) 123 c.in_ok-c.ensures).inside)

pub returns : goal.returns
returns c = deep_counted part_tries _ _ parts_run_on (tag_took (rest_self _ _) 123 c.in_ok-c.ensures) c.rest_at.ensures c.count_parts.result c.count_parts.ensures
