use Rattle.lexing.proofs.Losses.{passed_on}
use Rattle.items.specs.endpoints.{default_attribute_value}
use Rattle.items.proofs.defaults.Laws.{values_on, value_not, value_end}
use native.Mathlib.Omega.{arith}
use Rattle.lexing.specs.bytes.{ascii}
use Rattle.lexing.proofs.Slicing.{rest_self, begin, on, fall, keyword_took}
use Rattle.lexing.proofs.Pairs.{pair_on, pair_fall}
use Rattle.lexing.proofs.steps.Laws.{blank_at_took, tag_after_took, skips_lost}
use Rattle.items.proofs.defaults.default_attribute_value.Goals as goal

pub returns-in_err-c1 : goal.returns-in_err-c1
unfolding default_attribute_value
returns-in_err-c1 c = rw (passed_on c.from_residual.ensures) (value_not default_attribute_value _ (begin (default_attribute_value) _ _ (fall _ _ _ (rest_self _ _) c.in_err-c1.ensures)))

pub tag_after-requires : goal.tag_after-requires
tag_after-requires c = let t = keyword_took (rest_self _ _) (ascii "default") c.in_ok-c1.ensures in omega (arith, t.up, t.inside, c.requires)

pub returns-in_err-c2 : goal.returns-in_err-c2
unfolding default_attribute_value
returns-in_err-c2 c = rw (passed_on c.from_residual-in_err-c2.ensures) (value_not default_attribute_value _ (begin (default_attribute_value) _ _ (on _ (keyword_took (rest_self _ _) (ascii "default") c.in_ok-c1.ensures) (pair_fall _ _ _ _ c.in_err-c2.ensures.at (skips_lost c.in_err-c2.ensures)))))

pub blank_at-c3-requires : goal.blank_at-c3-requires
blank_at-c3-requires c = let t = tag_after_took 61 c.in_ok-c2.ensures in omega (arith, t.up, t.inside, c.in_ok-c2.ensures.at.from, c.requires)

pub rest_at-requires : goal.rest_at-requires
rest_at-requires c = let t = blank_at_took c.blank_at-c3.ensures in omega (arith, t.up, t.inside, c.blank_at-c3.ensures.at.from)

pub returns : goal.returns
unfolding default_attribute_value
returns c = value_end values_on default_attribute_value c.value_tries.result c.rest_at.ensures (λ X e. begin default_attribute_value _ _ (on _ (keyword_took (rest_self _ _) (ascii "default") c.in_ok-c1.ensures) (pair_on _ _ _ (tag_after_took 61 c.in_ok-c2.ensures) (on _ (blank_at_took c.blank_at-c3.ensures) e)))) c.value_tries.ensures
