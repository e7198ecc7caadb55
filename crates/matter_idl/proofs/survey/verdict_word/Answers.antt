use mathlib.Core.Path.{sym, ap, ◌∙◌}
use Rattle.matter_idl.specs.inner.survey.{verdict_word}
use Rattle.matter_idl.proofs.survey.Laws.{fits_told}
use Rattle.matter_idl.proofs.survey.verdict_word.Goals as goal

pub entry_word-requires-in-Err : goal.entry_word-requires-in-Err
entry_word-requires-in-Err c = record { start_le_text_limit = c.requires.start_le_text_limit; size_le_text_limit = c.requires.size_le_text_limit; number_bound = rw c.number.ensures (fits_told _ c.requires.place_fits c.in-Err.is).0; place_le_text_limit = (fits_told _ c.requires.place_fits c.in-Err.is).1 }

pub returns-in-Ok : goal.returns-in-Ok
returns-in-Ok c = c.entry_word.ensures ∙ sym (ap (verdict_word c.args.start c.args.size) c.in-Ok.is)

pub returns-in-Err : goal.returns-in-Err
returns-in-Err c = (rw c.number.ensures at c.entry_word-in-Err.ensures) ∙ sym (ap (verdict_word c.args.start c.args.size) c.in-Err.is)
