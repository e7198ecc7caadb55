use Rattle.lexing.proofs.Losses.{passed_on}
use Rattle.lexing.specs.words.{parse_id}
use Rattle.lexing.specs.answers.names.{keyword_name}
use mathlib.Core.Path.{refl, sym}
use native.Mathlib.Omega.{arith}
use Rattle.lexing.proofs.Slicing.{rest_self, begin, on, fall, keyword_took}
use Rattle.lexing.proofs.AnswerLaws.{read_is, read_not, last_lost}
use Rattle.lexing.proofs.steps.Laws.{gap_at_took, skips_lost}
use Rattle.lexing.proofs.words.Laws.{word_at_took, word_at_lost}
use Rattle.lexing.proofs.names.Laws.{name_more}
use Rattle.lexing.proofs.names.keyword_name.Goals as goal

pub returns-in_err-c1 : goal.returns-in_err-c1
returns-in_err-c1 c = rw (passed_on c.from_residual.ensures) (read_not _ (begin (keyword_name _) _ _ (fall _ _ _ (rest_self _ _) c.in_err-c1.ensures)))

pub gap_at-requires : goal.gap_at-requires
gap_at-requires c = let t = keyword_took (rest_self _ _) _ c.in_ok-c1.ensures in omega (arith, t.up, t.inside, c.requires.part_bound)

pub returns-in_err-c2 : goal.returns-in_err-c2
returns-in_err-c2 c = rw (passed_on c.from_residual-in_err-c2.ensures) (read_not _ (begin (keyword_name _) _ _ (on _ (keyword_took (rest_self _ _) _ c.in_ok-c1.ensures) (fall _ _ _ c.in_err-c2.ensures.at (skips_lost c.in_err-c2.ensures)))))

pub id_at-requires : goal.id_at-requires
id_at-requires c = let t = gap_at_took c.in_ok-c2.ensures in omega (arith, t.up, t.inside, c.in_ok-c2.ensures.at.from, c.requires.part_bound)

pub returns-in_err-c3 : goal.returns-in_err-c3
returns-in_err-c3 c = rw (passed_on c.from_residual-in_err-c3.ensures) (read_not _ (begin (keyword_name _) _ _ (on _ (keyword_took (rest_self _ _) _ c.in_ok-c1.ensures) (on _ (gap_at_took c.in_ok-c2.ensures) (last_lost parse_id _ c.in_err-c3.ensures.at (word_at_lost c.in_err-c3.ensures))))))

pub returns : goal.returns
returns c = read_is refl (begin (keyword_name _) _ _ (on _ (keyword_took (rest_self _ _) _ c.in_ok-c1.ensures) (on _ (gap_at_took c.in_ok-c2.ensures) (sym (word_at_took c.in_ok-c3.ensures).goes)))) (record { from = omega (arith, (gap_at_took c.in_ok-c2.ensures).up, c.in_ok-c2.ensures.at.from); up = (word_at_took c.in_ok-c3.ensures).up; inside = omega arith }, name_more (word_at_took c.in_ok-c3.ensures))
