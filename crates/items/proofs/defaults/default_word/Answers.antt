use Rattle.lexing.specs.word_sets.{bit}
use mathlib.Core.Path.{sym, ap, ◌∙◌}
use Rattle.items.specs.records.{default_word}
use Rattle.items.specs.layout.{layout, further_word, offset, size}
use Rattle.items.specs.inner.defaults.{default_of}
use Rattle.items.specs.declared.defaults.DefaultValue.{DefaultValue}
use Rattle.items.proofs.defaults.default_word.Goals as goal

pub returns-in-Absent : goal.returns-in-Absent
unfolding default_word further_word
returns-in-Absent c = sym (ap (λ (x : DefaultValue). further_word layout (default_word (default_of x))) c.in-Absent.is)

pub returns-in-Number : goal.returns-in-Number
unfolding default_word further_word
returns-in-Number c = sym (ap (λ (x : DefaultValue). further_word layout (default_word (default_of x))) c.in-Number.is)

pub returns-in-Signed : goal.returns-in-Signed
unfolding default_word further_word
returns-in-Signed c = c.twos_complement.ensures ∙ sym (ap (λ (x : DefaultValue). further_word layout (default_word (default_of x))) c.in-Signed.is)

pub returns-in-Truth : goal.returns-in-Truth
unfolding default_word further_word layout bit
returns-in-Truth c = c.from.ensures ∙ sym (ap (λ (x : DefaultValue). further_word layout (default_word (default_of x))) c.in-Truth.is)

pub returns-in-Text : goal.returns-in-Text
unfolding default_word further_word layout offset size
returns-in-Text c = c.span_word.ensures ∙ sym (ap (λ (x : DefaultValue). further_word layout (default_word (default_of x))) c.in-Text.is)
