use mathlib.Core.Path.{sym, ap, ◌∙◌}
use Rattle.items.specs.answers.{doc_span_word}
use Rattle.items.proofs.writing.Laws.{doc_fits_at}
use Rattle.items.proofs.writing.doc_word.Goals as goal

pub span_word-requires : goal.span_word-requires
span_word-requires c = record { offset_le_text_limit = (doc_fits_at _ c.in-Some.is c.requires).0; size_le_text_limit = (doc_fits_at _ c.in-Some.is c.requires).1 }

pub returns-in-None : goal.returns-in-None
returns-in-None c = sym (ap doc_span_word c.in-None.is)

pub returns-in-Some : goal.returns-in-Some
returns-in-Some c = c.span_word.ensures ∙ sym (ap doc_span_word c.in-Some.is)
