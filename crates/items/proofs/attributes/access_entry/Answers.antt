use Rattle.lexing.specs.declared.answers.LostBy.TheVariants.{Fail}
use Rattle.items.specs.members.{access_entry}
use Rattle.items.proofs.levels.Laws.{level_at_none, level_at_took, colon_on}
use Rattle.items.proofs.attributes.Laws.{entry_none, entry_is, operation_took}
use native.Mathlib.Omega.{arith}
use Rattle.lexing.proofs.Slicing.{begin, go, on, lose, done}
use Rattle.lexing.proofs.Pairs.{three_go, three_lose}
use Rattle.lexing.proofs.steps.Laws.{blank_at_took}
use Rattle.items.proofs.attributes.access_entry.Goals as goal

pub rest_at-requires : goal.rest_at-requires
rest_at-requires c = let t = blank_at_took c.blank_at-c1.ensures in omega (arith, t.up, t.inside)

pub returns-in_default : goal.returns-in_default
unfolding access_entry
returns-in_default c = entry_none (Fail _) (begin access_entry _ _ (on _ (blank_at_took c.blank_at-c1.ensures) (lose _ _ (Fail _) c.rest_at.ensures c.in_default.ensures.reads)))

pub blank_at-c3-requires : goal.blank_at-c3-requires
blank_at-c3-requires c = let t = (operation_took c.in-Some.ensures c.rest_at.ensures).step in omega (arith, t.up, t.inside, c.rest_at.ensures.from, c.requires)

pub colon_privilege-requires : goal.colon_privilege-requires
colon_privilege-requires c = let t = blank_at_took c.blank_at-c3.ensures in omega (arith, t.up, t.inside, c.blank_at-c3.ensures.at.from, c.requires)

pub returns-in_default-colon_privilege : goal.returns-in_default-colon_privilege
unfolding access_entry
returns-in_default-colon_privilege c = entry_none _ (begin access_entry _ _ (on _ (blank_at_took c.blank_at-c1.ensures) (go _ (operation_took c.in-Some.ensures c.rest_at.ensures).step (on _ (blank_at_took c.blank_at-c3.ensures) (three_lose _ _ _ _ _ c.in_default-colon_privilege.ensures.at (level_at_none c.in_default-colon_privilege.ensures))))))

pub blank_at-next-requires : goal.blank_at-next-requires
blank_at-next-requires c = let t = level_at_took c.in-Ok.ensures colon_on in omega (arith, t.up, t.inside, c.in-Ok.ensures.at.from, c.requires)

pub returns : goal.returns
unfolding access_entry
returns c = entry_is _ (operation_took c.in-Some.ensures c.rest_at.ensures) c.grants_with-more.ensures (begin access_entry _ _ (on _ (blank_at_took c.blank_at-c1.ensures) (go _ (operation_took c.in-Some.ensures c.rest_at.ensures).step (on _ (blank_at_took c.blank_at-c3.ensures) (three_go _ _ _ _ (level_at_took c.in-Ok.ensures colon_on) (on _ (blank_at_took c.blank_at-next.ensures) (done _ _ _ _)))))))
