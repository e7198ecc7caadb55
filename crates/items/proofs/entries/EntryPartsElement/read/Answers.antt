use Rattle.lexing.proofs.Losses.{passed_on}
use Rattle.items.specs.entries.{constant_entry}
use Rattle.items.specs.inner.entries.{entry_end}
use Rattle.lexing.proofs.names.Laws.{name_more, equals_code_on, number_at_took, number_at_lost}
use Rattle.items.proofs.entries.Laws.{entry_after, end_up, end_words, end_took}
use mathlib.Core.Path.{refl, sym}
use native.Mathlib.Omega.{arith}
use Rattle.lexing.proofs.Slicing.{rest_self, begin, go, on, lose}
use Rattle.lexing.proofs.AnswerLaws.{read_is, read_not, last_lost}
use Rattle.lexing.proofs.Pairs.{three_go, three_lose, between_go}
use Rattle.lexing.proofs.steps.Laws.{blank_at_took}
use Rattle.lexing.proofs.words.Laws.{word_at_took, word_at_lost}
use Rattle.items.proofs.maturity.Laws.{between_took}
use Rattle.items.proofs.entries.EntryPartsElement.read.Goals as goal

pub returns-in_err-end : goal.returns-in_err-end
unfolding constant_entry entry_end
returns-in_err-end c = entry_after (rw (passed_on c.from_residual.ensures) (read_not _ (begin (constant_entry) _ _ (between_go _ _ _ _ (between_took (rest_self _ _) c.maturity_between-maturity.ensures) (lose _ _ _ c.in_err-end.ensures.at (word_at_lost c.in_err-end.ensures))))))

pub blank_at-equals-requires : goal.blank_at-equals-requires
blank_at-equals-requires c = let t = word_at_took c.in_ok-end.ensures in omega (arith, t.up, t.inside, c.in_ok-end.ensures.at.from, c.requires)

pub equals_code-requires : goal.equals_code-requires
equals_code-requires c = let t = blank_at_took c.blank_at-equals.ensures in omega (arith, t.up, t.inside, c.blank_at-equals.ensures.at.from, c.requires)

pub returns-in_err-code : goal.returns-in_err-code
unfolding constant_entry entry_end
returns-in_err-code c = entry_after (rw (passed_on c.from_residual-in_err-code.ensures) (read_not _ (begin (constant_entry) _ _ (between_go _ _ _ _ (between_took (rest_self _ _) c.maturity_between-maturity.ensures) (go _ (word_at_took c.in_ok-end.ensures) (on _ (blank_at_took c.blank_at-equals.ensures) (three_lose _ _ _ _ _ c.in_err-code.ensures.at (number_at_lost c.in_err-code.ensures))))))))

pub rest_at-requires : goal.rest_at-requires
rest_at-requires c = let t = number_at_took c.in_ok-code.ensures equals_code_on in omega (arith, t.up, t.inside, c.in_ok-code.ensures.at.from)

pub returns-in_err-words : goal.returns-in_err-words
unfolding constant_entry entry_end
returns-in_err-words c = entry_after (rw (passed_on c.from_residual-in_err-words.ensures) (read_not _ (begin (constant_entry) _ _ (between_go _ _ _ _ (between_took (rest_self _ _) c.maturity_between-maturity.ensures) (go _ (word_at_took c.in_ok-end.ensures) (on _ (blank_at_took c.blank_at-equals.ensures) (three_go _ _ _ _ (number_at_took c.in_ok-code.ensures equals_code_on) (last_lost (entry_end _) _ c.rest_at.ensures (c.in_err-words.ensures.reads _)))))))))

pub returns : goal.returns
unfolding constant_entry entry_end
returns c = entry_after (read_is refl (begin (constant_entry) _ _ (between_go _ _ _ _ (between_took (rest_self _ _) c.maturity_between-maturity.ensures) (go _ (word_at_took c.in_ok-end.ensures) (on _ (blank_at_took c.blank_at-equals.ensures) (three_go _ _ _ _ (number_at_took c.in_ok-code.ensures equals_code_on) (sym (end_took _ c.rest_at.ensures c.in_ok-words.ensures).goes)))))) (let w = end_words c.rest_at.ensures c.in_ok-words.ensures in record { from = c.maturity_between-maturity.ensures.up; up = name_more (word_at_took c.in_ok-end.ensures); follows = omega (arith, (blank_at_took c.blank_at-equals.ensures).up, (number_at_took c.in_ok-code.ensures equals_code_on).up); inside = end_up c.in_ok-words.ensures; words = w.0; few = w.1 }))
