use mathlib.Core.Path.{sym, ap}
use Rattle.items.specs.records.{default_number}
use Rattle.items.specs.inner.defaults.{default_of}
use Rattle.items.specs.declared.defaults.DefaultValue.{DefaultValue}
use Rattle.items.proofs.defaults.default_number.Goals as goal

pub returns-in-Absent : goal.returns-in-Absent
unfolding default_number
returns-in-Absent c = sym (ap (λ (x : DefaultValue). default_number (default_of x)) c.in-Absent.is)

pub returns-in-Number : goal.returns-in-Number
unfolding default_number
returns-in-Number c = sym (ap (λ (x : DefaultValue). default_number (default_of x)) c.in-Number.is)

pub returns-in-Signed : goal.returns-in-Signed
unfolding default_number
returns-in-Signed c = sym (ap (λ (x : DefaultValue). default_number (default_of x)) c.in-Signed.is)

pub returns-in-Truth : goal.returns-in-Truth
unfolding default_number
returns-in-Truth c = sym (ap (λ (x : DefaultValue). default_number (default_of x)) c.in-Truth.is)

pub returns-in-Text : goal.returns-in-Text
unfolding default_number
returns-in-Text c = sym (ap (λ (x : DefaultValue). default_number (default_of x)) c.in-Text.is)
