use Rattle.lexing.proofs.Losses.{passed_on}
use native.Mathlib.Omega.{arith}
use Rattle.lexing.proofs.Slicing.{on}
use Rattle.lexing.proofs.steps.Laws.{blank_at_took}
use Rattle.lexing.proofs.words.Laws.{word_at_took, word_at_lost}
use Rattle.lexing.proofs.names.Laws.{name_missed, name_read}
use Rattle.lexing.proofs.names.blank_word.Goals as goal

pub blank_at-c1-requires : goal.blank_at-c1-requires
blank_at-c1-requires c = c.requires

pub id_at-requires : goal.id_at-requires
id_at-requires c = let t = (blank_at_took c.blank_at-c1.ensures) in omega (arith, t.up, t.inside, c.requires)

pub returns-in_err-c2 : goal.returns-in_err-c2
returns-in_err-c2 c = rw (passed_on c.from_residual.ensures) (name_missed c.blank_at-c1.ensures.at _ _ (on _ (blank_at_took c.blank_at-c1.ensures) (word_at_lost c.in_err-c2.ensures)))

pub returns : goal.returns
returns c = name_read c.blank_at-c1.ensures.at (blank_at_took c.blank_at-c1.ensures) (word_at_took c.in_ok-c2.ensures)
