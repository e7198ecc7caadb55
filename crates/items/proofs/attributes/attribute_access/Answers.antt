use Rattle.items.specs.members.{access_list}
use Rattle.lexing.proofs.Slicing.{begin, go, on, fall, done, keyword_took}
use Rattle.items.proofs.attributes.Laws.{access_elsewhere, access_absent, access_grants, access_refused, entries_onward}
use mathlib.Core.Path.{◌∙◌, ap}
use Rattle.items.specs.inner.attributes.{granted_of}
use native.Mathlib.Omega.{arith}
use Rattle.lexing.specs.bytes.{ascii}
use Rattle.lexing.proofs.Pairs.{pair_on, pair_fall}
use Rattle.lexing.proofs.steps.Laws.{blank_at_took, tag_after_took, skips_lost}
use Rattle.items.proofs.Mapped.{read_as}
use Rattle.items.proofs.attributes.attribute_access.Goals as goal

pub returns-then-lower_of-ne97 : goal.returns-then-lower_of-ne97
returns-then-lower_of-ne97 c = access_elsewhere c.peek-x.ensures c.lower_of.ensures c.if-x-gt47.true c.if-lower_of-ne97.true

pub rest_at-requires : goal.rest_at-requires
rest_at-requires c = let t = blank_at_took c.blank_at-c1.ensures in omega (arith, t.up, t.inside)

pub returns-in_default : goal.returns-in_default
unfolding access_list
returns-in_default c = access_absent _ (begin access_list _ _ (on _ (blank_at_took c.blank_at-c1.ensures) (fall _ _ _ c.rest_at.ensures c.in_default.ensures)))

pub tag_after-requires : goal.tag_after-requires
tag_after-requires c = let t = keyword_took c.rest_at.ensures (ascii "access") c.in-Ok.ensures in omega (arith, t.up, t.inside, c.rest_at.ensures.from, c.requires)

pub returns-in_default-tag_after : goal.returns-in_default-tag_after
unfolding access_list
returns-in_default-tag_after c = access_absent _ (begin access_list _ _ (on _ (blank_at_took c.blank_at-c1.ensures) (on _ (keyword_took c.rest_at.ensures (ascii "access") c.in-Ok.ensures) (pair_fall _ _ _ _ c.in_default-tag_after.ensures.at (skips_lost c.in_default-tag_after.ensures)))))

pub blank_at-c4-requires : goal.blank_at-c4-requires
blank_at-c4-requires c = let t = tag_after_took 40 c.in-Ok-tag_after.ensures in omega (arith, t.up, t.inside, c.in-Ok-tag_after.ensures.at.from, c.requires)

pub rest_at-requires-2 : goal.rest_at-requires-2
rest_at-requires-2 c = let t = blank_at_took c.blank_at-c4.ensures in omega (arith, t.up, t.inside, c.blank_at-c4.ensures.at.from)

pub tag_after-requires-2 : goal.tag_after-requires-2
tag_after-requires-2 c = let t = (read_as c.access_entries-entries.ensures entries_onward c.rest_at-2.ensures).step in omega (arith, t.up, t.inside, c.rest_at-2.ensures.from, c.requires)

pub returns-in_default-tag_after-2 : goal.returns-in_default-tag_after-2
unfolding access_list
returns-in_default-tag_after-2 c = access_absent _ (begin access_list _ _ (on _ (blank_at_took c.blank_at-c1.ensures) (on _ (keyword_took c.rest_at.ensures (ascii "access") c.in-Ok.ensures) (pair_on _ _ _ (tag_after_took 40 c.in-Ok-tag_after.ensures) (on _ (blank_at_took c.blank_at-c4.ensures) (go _ (read_as c.access_entries-entries.ensures entries_onward c.rest_at-2.ensures).step (pair_fall _ _ _ _ c.in_default-tag_after-2.ensures.at (skips_lost c.in_default-tag_after-2.ensures))))))))

pub returns-in-Ok-grants : goal.returns-in-Ok-grants
unfolding access_list
returns-in-Ok-grants c = access_grants ((read_as c.access_entries-entries.ensures entries_onward c.rest_at-2.ensures).is ∙ ap granted_of c.in-Ok-grants.is) (begin access_list _ _ (on _ (blank_at_took c.blank_at-c1.ensures) (on _ (keyword_took c.rest_at.ensures (ascii "access") c.in-Ok.ensures) (pair_on _ _ _ (tag_after_took 40 c.in-Ok-tag_after.ensures) (on _ (blank_at_took c.blank_at-c4.ensures) (go _ (read_as c.access_entries-entries.ensures entries_onward c.rest_at-2.ensures).step (pair_on _ _ _ (tag_after_took 41 c.in-Ok-tag_after-2.ensures) (done _ _ _ _))))))))

pub returns-in-Err : goal.returns-in-Err
unfolding access_list
returns-in-Err c = (access_refused ((read_as c.access_entries-entries.ensures entries_onward c.rest_at-2.ensures).is ∙ ap granted_of c.in-Err.is) (begin access_list _ _ (on _ (blank_at_took c.blank_at-c1.ensures) (on _ (keyword_took c.rest_at.ensures (ascii "access") c.in-Ok.ensures) (pair_on _ _ _ (tag_after_took 40 c.in-Ok-tag_after.ensures) (on _ (blank_at_took c.blank_at-c4.ensures) (go _ (read_as c.access_entries-entries.ensures entries_onward c.rest_at-2.ensures).step (pair_on _ _ _ (tag_after_took 41 c.in-Ok-tag_after-2.ensures) (done _ _ _ _)))))))))
