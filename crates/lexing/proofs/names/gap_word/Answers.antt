use Rattle.lexing.proofs.Losses.{passed_on}
use native.Mathlib.Omega.{arith}
use Rattle.lexing.proofs.Slicing.{fall, on}
use Rattle.lexing.proofs.steps.Laws.{gap_at_took, skips_lost}
use Rattle.lexing.proofs.words.Laws.{word_at_took, word_at_lost}
use Rattle.lexing.proofs.names.Laws.{name_missed, name_read}
use Rattle.lexing.proofs.names.gap_word.Goals as goal

pub gap_at-requires : goal.gap_at-requires
gap_at-requires c = c.requires

pub returns-in_err-c1 : goal.returns-in_err-c1
returns-in_err-c1 c = rw (passed_on c.from_residual.ensures) (name_missed c.in_err-c1.ensures.at _ _ (fall _ _ _ c.in_err-c1.ensures.at (skips_lost c.in_err-c1.ensures)))

pub id_at-requires : goal.id_at-requires
id_at-requires c = let t = (gap_at_took c.in_ok-c1.ensures) in omega (arith, t.up, t.inside, c.requires)

pub returns-in_err-c2 : goal.returns-in_err-c2
returns-in_err-c2 c = rw (passed_on c.from_residual-in_err-c2.ensures) (name_missed c.in_ok-c1.ensures.at _ _ (on _ (gap_at_took c.in_ok-c1.ensures) (word_at_lost c.in_err-c2.ensures)))

pub returns : goal.returns
returns c = name_read c.in_ok-c1.ensures.at (gap_at_took c.in_ok-c1.ensures) (word_at_took c.in_ok-c2.ensures)
