use Rattle.lexing.proofs.steps.Laws.{skips_lost}
use Rattle.lexing.proofs.Slicing.{rest_self, begin, on, fall, done, tag_took}
use Rattle.items.specs.structs.{list_marker}
use Rattle.items.proofs.fields.Laws.{marker_none, marker_is}
use native.Mathlib.Omega.{arith}
use Rattle.lexing.proofs.Pairs.{pair_on, pair_fall}
use Rattle.lexing.proofs.steps.Laws.{blank_at_took, tag_after_took}
use Rattle.items.proofs.fields.list_marker.Goals as goal

pub returns-in_default : goal.returns-in_default
unfolding list_marker
returns-in_default c = marker_none c.in_default.field-0 (begin list_marker _ _ (fall _ _ c.in_default.field-0 (rest_self _ _) c.in_default.ensures))

pub tag_after-requires : goal.tag_after-requires
tag_after-requires c = let t = tag_took (rest_self _ _) 91 c.in-Ok.ensures in omega (arith, t.up, t.inside, c.requires)

pub returns-in_default-tag_after : goal.returns-in_default-tag_after
unfolding list_marker
returns-in_default-tag_after c = marker_none c.in_default-tag_after.field-0 (begin list_marker _ _ (on _ (tag_took (rest_self _ _) 91 c.in-Ok.ensures) (pair_fall _ _ _ c.in_default-tag_after.field-0 c.in_default-tag_after.ensures.at (skips_lost c.in_default-tag_after.ensures))))

pub blank_at-next-requires : goal.blank_at-next-requires
blank_at-next-requires c = let t = tag_after_took 93 c.in-Ok-tag_after.ensures in omega (arith, t.up, t.inside, c.in-Ok-tag_after.ensures.at.from, c.requires)

pub returns : goal.returns
unfolding list_marker
returns c = marker_is _ _ _ (begin (list_marker) _ _ (on _ (tag_took (rest_self _ _) 91 c.in-Ok.ensures) (pair_on _ _ _ (tag_after_took 93 c.in-Ok-tag_after.ensures) (on _ (blank_at_took c.blank_at-next.ensures) (done _ _ _ _)))))
