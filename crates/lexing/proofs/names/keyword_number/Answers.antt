use Rattle.lexing.proofs.Losses.{passed_on}
use Rattle.lexing.specs.integers.{positive_integer}
use Rattle.lexing.specs.answers.names.{keyword_number}
use mathlib.Core.Path.{sym}
use native.Mathlib.Omega.{arith}
use Rattle.lexing.proofs.Slicing.{rest_self, begin, on, fall, keyword_took, integer_took}
use Rattle.lexing.proofs.AnswerLaws.{last_lost}
use Rattle.lexing.proofs.steps.Laws.{gap_at_took, skips_lost}
use Rattle.lexing.proofs.names.keyword_number.Goals as goal

pub returns-in_err-c1 : goal.returns-in_err-c1
returns-in_err-c1 c = rw (passed_on c.from_residual.ensures) ((begin (keyword_number _) _ _ (fall _ _ _ (rest_self _ _) c.in_err-c1.ensures)))

pub gap_at-requires : goal.gap_at-requires
gap_at-requires c = let t = keyword_took (rest_self _ _) _ c.in_ok-c1.ensures in omega (arith, t.up, t.inside, c.requires.part_bound)

pub returns-in_err-c2 : goal.returns-in_err-c2
returns-in_err-c2 c = rw (passed_on c.from_residual-in_err-c2.ensures) ((begin (keyword_number _) _ _ (on _ (keyword_took (rest_self _ _) _ c.in_ok-c1.ensures) (fall _ _ _ c.in_err-c2.ensures.at (skips_lost c.in_err-c2.ensures)))))

pub rest_at-requires : goal.rest_at-requires
rest_at-requires c = let t = gap_at_took c.in_ok-c2.ensures in omega (arith, t.up, t.inside, c.in_ok-c2.ensures.at.from)

pub positive_integer-requires : goal.positive_integer-requires
positive_integer-requires c = omega (arith, c.rest_at.ensures.size, c.requires.part_bound)

pub returns-in_err-v : goal.returns-in_err-v
returns-in_err-v c = rw (passed_on c.from_residual-in_err-v.ensures) ((begin (keyword_number _) _ _ (on _ (keyword_took (rest_self _ _) _ c.in_ok-c1.ensures) (on _ (gap_at_took c.in_ok-c2.ensures) (last_lost positive_integer _ c.rest_at.ensures c.in_err-v.ensures)))))

pub returns : goal.returns
returns c = (begin (keyword_number _) _ _ (on _ (keyword_took (rest_self _ _) _ c.in_ok-c1.ensures) (on _ (gap_at_took c.in_ok-c2.ensures) (sym (integer_took c.rest_at.ensures c.in_ok-v.ensures).goes))))
