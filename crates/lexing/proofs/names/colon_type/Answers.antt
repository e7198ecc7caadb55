use Rattle.lexing.proofs.Losses.{passed_on}
use Rattle.lexing.specs.words.{parse_id}
use Rattle.lexing.specs.answers.names.{type_after}
use mathlib.Core.Path.{refl, sym}
use native.Mathlib.Omega.{arith}
use Rattle.lexing.proofs.Slicing.{begin, on}
use Rattle.lexing.proofs.AnswerLaws.{read_is, read_not, last_lost}
use Rattle.lexing.proofs.Pairs.{pair_on, pair_fall}
use Rattle.lexing.proofs.steps.Laws.{blank_at_took, tag_after_took, skips_lost}
use Rattle.lexing.proofs.words.Laws.{word_at_took, word_at_lost}
use Rattle.lexing.proofs.names.Laws.{name_more}
use Rattle.lexing.proofs.names.colon_type.Goals as goal

pub tag_after-requires : goal.tag_after-requires
tag_after-requires c = omega (arith, c.requires)

pub returns-in_err-c1 : goal.returns-in_err-c1
returns-in_err-c1 c = rw (passed_on c.from_residual.ensures) (read_not _ (begin (type_after) _ _ (pair_fall _ _ _ _ c.in_err-c1.ensures.at (skips_lost c.in_err-c1.ensures))))

pub blank_at-c2-requires : goal.blank_at-c2-requires
blank_at-c2-requires c = let t = tag_after_took 58 c.in_ok-c1.ensures in omega (arith, t.up, t.inside, c.requires)

pub id_at-requires : goal.id_at-requires
id_at-requires c = let t = blank_at_took c.blank_at-c2.ensures in omega (arith, t.up, t.inside, c.blank_at-c2.ensures.at.from, c.requires)

pub returns-in_err-c3 : goal.returns-in_err-c3
returns-in_err-c3 c = rw (passed_on c.from_residual-in_err-c3.ensures) (read_not _ (begin (type_after) _ _ (pair_on _ _ _ (tag_after_took 58 c.in_ok-c1.ensures) (on _ (blank_at_took c.blank_at-c2.ensures) (last_lost parse_id _ c.in_err-c3.ensures.at (word_at_lost c.in_err-c3.ensures))))))

pub returns : goal.returns
returns c = read_is refl (begin (type_after) _ _ (pair_on _ _ _ (tag_after_took 58 c.in_ok-c1.ensures) (on _ (blank_at_took c.blank_at-c2.ensures) (sym (word_at_took c.in_ok-c3.ensures).goes)))) (record { from = omega (arith, (tag_after_took 58 c.in_ok-c1.ensures).up, (blank_at_took c.blank_at-c2.ensures).up); up = (word_at_took c.in_ok-c3.ensures).up; inside = omega arith }, name_more (word_at_took c.in_ok-c3.ensures))
