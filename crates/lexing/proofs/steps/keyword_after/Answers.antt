use Rattle.lexing.proofs.Losses.{passed_on}
use native.Mathlib.Omega.{arith}
use Rattle.std.specs.Prelude.{Ok, Err}
use Rattle.lexing.proofs.steps.Laws.{blank_bounds, keyword_after_is}
use Rattle.lexing.proofs.steps.keyword_after.Goals as goal

pub rest_at-requires : goal.rest_at-requires
rest_at-requires c = omega (arith, blank_bounds c.blank_at-n.ensures.skips, c.blank_at-n.ensures.at.size, c.blank_at-n.ensures.at.from)

pub keyword-requires : goal.keyword-requires
keyword-requires c = record { part_bound = omega (arith, c.rest_at.ensures.size, c.requires.base_le_c.1); key_value = c.requires.key_value }

pub returns-in_err-end : goal.returns-in_err-end
returns-in_err-end c = rw (passed_on c.from_residual.ensures) (keyword_after_is c.blank_at-n.ensures.at c.blank_at-n.ensures.skips c.rest_at.ensures _ (Err _) c.in_err-end.ensures)

pub returns : goal.returns
returns c = keyword_after_is c.blank_at-n.ensures.at c.blank_at-n.ensures.skips c.rest_at.ensures _ (Ok _) c.in_ok-end.ensures
