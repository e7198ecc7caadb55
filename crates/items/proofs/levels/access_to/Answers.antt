use Rattle.lexing.proofs.steps.Laws.{skips_lost}
use borrow.Author.Rules.{rules}
use Rattle.lexing.specs.reply.{◌>>◌}
use Rattle.lexing.specs.blanks.{whitespace0}
use Rattle.items.specs.members.{access_to}
use Rattle.items.proofs.levels.Laws.{level_at_none, privilege_none, privilege_is, level_at_took, opening_on, colon_on}
use Rattle.lexing.proofs.Slicing.{rest_self, begin, on, fall, done, keyword_took}
use Rattle.lexing.proofs.Pairs.{four_fall, pair_on, pair_fall, three_go, three_lose, four_on}
use native.Mathlib.Omega.{arith}
use Rattle.lexing.proofs.steps.Laws.{blank_at_took, tag_after_took}
use Rattle.lexing.proofs.answers.Laws.{skip_took}
use Rattle.items.proofs.levels.access_to.Goals as goal

pub access_opening-requires : goal.access_opening-requires
access_opening-requires c = c.requires.part_bound

pub returns-in_default : goal.returns-in_default
unfolding access_to
returns-in_default c = privilege_none c.args.key.now c.args.otherwise c.in_default.field-0 (begin (whitespace0 >> access_to c.args.key.now) _ _ (four_fall _ _ _ _ _ c.in_default.field-0 (rest_self _ _) c.in_default.ensures.reads))

pub blank_at-c2-requires : goal.blank_at-c2-requires
blank_at-c2-requires c = let t = skip_took opening_on (rest_self _ _) c.in-Ok.ensures in omega (arith, t.up, t.inside, c.requires.part_bound)

pub rest_at-requires : goal.rest_at-requires
rest_at-requires c = let t = blank_at_took c.blank_at-c2.ensures in omega (arith, t.up, t.inside, c.blank_at-c2.ensures.at.from)

pub keyword-requires : goal.keyword-requires
keyword-requires c = record { part_bound = omega (arith, c.rest_at.ensures.size, c.requires.part_bound); key_value = search rules }

pub returns-in_default-keyword : goal.returns-in_default-keyword
unfolding access_to
returns-in_default-keyword c = privilege_none c.args.key.now c.args.otherwise c.in_default-keyword.field-0 (begin (whitespace0 >> access_to c.args.key.now) _ _ (four_on _ _ _ _ _ (skip_took opening_on (rest_self _ _) c.in-Ok.ensures) (on _ (blank_at_took c.blank_at-c2.ensures) (fall _ _ c.in_default-keyword.field-0 c.rest_at.ensures c.in_default-keyword.ensures))))

pub colon_privilege-requires : goal.colon_privilege-requires
colon_privilege-requires c = let t = keyword_took c.rest_at.ensures _ c.in-Ok-keyword.ensures in omega (arith, t.up, t.inside, c.rest_at.ensures.from, c.requires.part_bound)

pub returns-in_default-colon_privilege : goal.returns-in_default-colon_privilege
unfolding access_to
returns-in_default-colon_privilege c = privilege_none c.args.key.now c.args.otherwise c.in_default-colon_privilege.field-0 (begin (whitespace0 >> access_to c.args.key.now) _ _ (four_on _ _ _ _ _ (skip_took opening_on (rest_self _ _) c.in-Ok.ensures) (on _ (blank_at_took c.blank_at-c2.ensures) (on _ (keyword_took c.rest_at.ensures _ c.in-Ok-keyword.ensures) (three_lose _ _ _ _ c.in_default-colon_privilege.field-0 c.in_default-colon_privilege.ensures.at (level_at_none c.in_default-colon_privilege.ensures))))))

pub tag_after-requires : goal.tag_after-requires
tag_after-requires c = let t = level_at_took c.in-Ok-colon_privilege.ensures colon_on in omega (arith, t.up, t.inside, c.in-Ok-colon_privilege.ensures.at.from, c.requires.part_bound)

pub returns-in_default-tag_after : goal.returns-in_default-tag_after
unfolding access_to
returns-in_default-tag_after c = privilege_none c.args.key.now c.args.otherwise c.in_default-tag_after.field-0 (begin (whitespace0 >> access_to c.args.key.now) _ _ (four_on _ _ _ _ _ (skip_took opening_on (rest_self _ _) c.in-Ok.ensures) (on _ (blank_at_took c.blank_at-c2.ensures) (on _ (keyword_took c.rest_at.ensures _ c.in-Ok-keyword.ensures) (three_go _ _ _ _ (level_at_took c.in-Ok-colon_privilege.ensures colon_on) (pair_fall _ _ _ c.in_default-tag_after.field-0 c.in_default-tag_after.ensures.at (skips_lost c.in_default-tag_after.ensures)))))))

pub returns : goal.returns
unfolding access_to
returns c = privilege_is c.args.key.now c.args.otherwise (begin (whitespace0 >> access_to c.args.key.now) _ _ (four_on _ _ _ _ _ (skip_took opening_on (rest_self _ _) c.in-Ok.ensures) (on _ (blank_at_took c.blank_at-c2.ensures) (on _ (keyword_took c.rest_at.ensures _ c.in-Ok-keyword.ensures) (three_go _ _ _ _ (level_at_took c.in-Ok-colon_privilege.ensures colon_on) (pair_on _ _ _ (tag_after_took 41 c.in-Ok-tag_after.ensures) (done _ _ _ _)))))))
