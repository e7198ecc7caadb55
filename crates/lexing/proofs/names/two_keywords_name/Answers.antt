use Rattle.lexing.proofs.Losses.{passed_on}
use borrow.Author.Rules.{rules}
use Rattle.lexing.specs.names.{two_keywords_name}
use Rattle.lexing.specs.answers.names.{keyword_name}
use Rattle.lexing.proofs.names.Laws.{named_wider, named_took, keyword_name_on}
use mathlib.Core.Path.{refl, sym}
use native.Mathlib.Omega.{arith}
use Rattle.lexing.proofs.Slicing.{rest_self, begin, on, fall, keyword_took}
use Rattle.lexing.proofs.AnswerLaws.{read_is, read_not, last_lost, read_lost}
use Rattle.lexing.proofs.steps.Laws.{gap_at_took, skips_lost}
use Rattle.lexing.proofs.names.two_keywords_name.Goals as goal

pub returns-in_err-c1 : goal.returns-in_err-c1
unfolding two_keywords_name
returns-in_err-c1 c = rw (passed_on c.from_residual.ensures) (read_not _ (begin (two_keywords_name _ _) _ _ (fall _ _ _ (rest_self _ _) c.in_err-c1.ensures)))

pub gap_at-requires : goal.gap_at-requires
gap_at-requires c = let t = keyword_took (rest_self _ _) _ c.in_ok-c1.ensures in omega (arith, t.up, t.inside, c.requires.part_bound)

pub returns-in_err-c2 : goal.returns-in_err-c2
unfolding two_keywords_name
returns-in_err-c2 c = rw (passed_on c.from_residual-in_err-c2.ensures) (read_not _ (begin (two_keywords_name _ _) _ _ (on _ (keyword_took (rest_self _ _) _ c.in_ok-c1.ensures) (fall _ _ _ c.in_err-c2.ensures.at (skips_lost c.in_err-c2.ensures)))))

pub rest_at-requires : goal.rest_at-requires
rest_at-requires c = let t = gap_at_took c.in_ok-c2.ensures in omega (arith, t.up, t.inside, c.in_ok-c2.ensures.at.from)

pub keyword_name-requires : goal.keyword_name-requires
keyword_name-requires c = record { part_bound = omega (arith, c.rest_at.ensures.size, c.requires.part_bound); key_value = search rules }

pub returns-in_err-named : goal.returns-in_err-named
unfolding two_keywords_name
returns-in_err-named c = rw (passed_on c.from_residual-in_err-named.ensures) (read_not _ (begin (two_keywords_name _ _) _ _ (on _ (keyword_took (rest_self _ _) _ c.in_ok-c1.ensures) (on _ (gap_at_took c.in_ok-c2.ensures) (last_lost (keyword_name _) _ c.rest_at.ensures (read_lost c.in_err-named.ensures))))))

pub returns : goal.returns
unfolding two_keywords_name
returns c = read_is refl (begin (two_keywords_name _ _) _ _ (on _ (keyword_took (rest_self _ _) _ c.in_ok-c1.ensures) (on _ (gap_at_took c.in_ok-c2.ensures) (sym (named_took c.in_ok-named.ensures (keyword_name_on _) c.rest_at.ensures).goes)))) (named_wider c.in_ok-named.ensures c.rest_at.ensures.from (omega arith))
