use Rattle.std.specs.Prelude.{Ok, Err}
use Rattle.lexing.proofs.Losses.{passed_on}
use mathlib.Core.Path.{refl}
use native.Mathlib.Omega.{arith}
use Rattle.lexing.specs.bytes.{ascii}
use Rattle.lexing.proofs.Slicing.{keyword_took}
use Rattle.lexing.proofs.steps.Laws.{blank_at_took, keyword_after_is}
use Rattle.items.proofs.levels.Laws.{opening_not, opening_is}
use Rattle.items.proofs.levels.access_opening.Goals as goal

pub blank_at-n-requires : goal.blank_at-n-requires
blank_at-n-requires c = omega (arith, c.requires)

pub rest_at-requires : goal.rest_at-requires
rest_at-requires c = let s = (blank_at_took c.blank_at-n.ensures) in omega (arith, s.up, s.inside)

pub keyword-requires : goal.keyword-requires
keyword-requires c = record { part_bound = omega (arith, c.rest_at.ensures.size, c.requires); key_value = refl }

pub returns-in_err-c : goal.returns-in_err-c
returns-in_err-c c = rw (passed_on c.from_residual.ensures) (opening_not (keyword_after_is c.blank_at-n.ensures.at c.blank_at-n.ensures.skips c.rest_at.ensures (ascii "access") (Err _) c.in_err-c.ensures))

pub tag_after-requires : goal.tag_after-requires
tag_after-requires c = let t = (keyword_took c.rest_at.ensures (ascii "access") c.in_ok-c.ensures) in omega (arith, t.up, t.inside, c.rest_at.ensures.from, c.requires)

pub returns : goal.returns
returns c = opening_is (keyword_after_is c.blank_at-n.ensures.at c.blank_at-n.ensures.skips c.rest_at.ensures (ascii "access") (Ok _) c.in_ok-c.ensures) c.tag_after.result c.tag_after.ensures
