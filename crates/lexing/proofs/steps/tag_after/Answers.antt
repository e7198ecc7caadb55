use native.Mathlib.Omega.{arith}
use Rattle.lexing.proofs.steps.Laws.{blank_bounds, tag_after_is}
use Rattle.lexing.proofs.steps.tag_after.Goals as goal

pub rest_at-requires : goal.rest_at-requires
rest_at-requires c = omega (arith, blank_bounds c.blank_at-n.ensures.skips, c.blank_at-n.ensures.at.size, c.blank_at-n.ensures.at.from)

pub tag-requires : goal.tag-requires
tag-requires c = omega (arith, c.rest_at.ensures.size, c.requires.1)

pub returns : goal.returns
returns c = tag_after_is c.blank_at-n.ensures.at c.blank_at-n.ensures.skips c.rest_at.ensures _ _ c.tag.ensures
