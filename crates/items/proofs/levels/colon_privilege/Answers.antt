use Rattle.lexing.proofs.Losses.{passed_on}
use native.Mathlib.Omega.{arith}
use Rattle.lexing.proofs.Slicing.{fall, rest_from, tag_took}
use Rattle.lexing.proofs.AnswerLaws.{read_not}
use Rattle.lexing.proofs.steps.Laws.{blank_at_took}
use Rattle.items.proofs.levels.Laws.{colon_after}
use Rattle.items.proofs.levels.colon_privilege.Goals as goal

pub rest_at-requires : goal.rest_at-requires
rest_at-requires c = c.requires.0

pub tag-requires : goal.tag-requires
tag-requires c = omega (arith, c.rest_at.ensures.size, c.requires.1)

pub returns-in_err-c1 : goal.returns-in_err-c1
returns-in_err-c1 c = rw (passed_on c.from_residual.ensures) (record { at = (rest_from _ _ _ c.requires.0.0 c.requires.0.1); to = read_not _ (fall _ _ _ c.rest_at.ensures c.in_err-c1.ensures) })

pub blank_at-c2-requires : goal.blank_at-c2-requires
blank_at-c2-requires c = let t = (tag_took c.rest_at.ensures 58 c.in_ok-c1.ensures) in omega (arith, t.up, t.inside, c.requires)

pub rest_at-requires-2 : goal.rest_at-requires-2
rest_at-requires-2 c = let s = (blank_at_took c.blank_at-c2.ensures) in omega (arith, s.up, s.inside, c.blank_at-c2.ensures.at.from)

pub access_privilege-requires : goal.access_privilege-requires
access_privilege-requires c = omega (arith, c.rest_at-2.ensures.size, c.requires.1)

pub returns : goal.returns
returns c = colon_after c.access_privilege.result (rest_from _ _ _ c.requires.0.0 c.requires.0.1) (tag_took c.rest_at.ensures 58 c.in_ok-c1.ensures) (blank_at_took c.blank_at-c2.ensures) c.rest_at-2.ensures c.access_privilege.ensures
