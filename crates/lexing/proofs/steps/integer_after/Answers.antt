use native.Mathlib.Omega.{arith}
use Rattle.lexing.proofs.steps.Laws.{blank_bounds, integer_after_is}
use Rattle.lexing.proofs.steps.integer_after.Goals as goal

pub rest_at-requires : goal.rest_at-requires
rest_at-requires c = omega (arith, blank_bounds c.blank_at-n.ensures.skips, c.blank_at-n.ensures.at.size, c.blank_at-n.ensures.at.from)

pub positive_integer-requires : goal.positive_integer-requires
positive_integer-requires c = omega (arith, c.rest_at.ensures.size, c.requires.1)

pub returns : goal.returns
returns c = integer_after_is c.blank_at-n.ensures.at c.blank_at-n.ensures.skips c.rest_at.ensures _ c.positive_integer.ensures
