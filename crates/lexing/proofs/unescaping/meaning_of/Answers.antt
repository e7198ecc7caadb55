use native.Mathlib.Omega.{arith}
use Rattle.lexing.specs.unescaping.{escaped, escapes, lookup}
use Rattle.lexing.proofs.unescaping.Laws.{missed, missing}
use Rattle.lexing.proofs.unescaping.meaning_of.Goals as goal

pub returns-in-34 : goal.returns-in-34
unfolding escaped escapes lookup
returns-in-34 c = rw c.in-34.is

pub returns-in-92 : goal.returns-in-92
unfolding escaped escapes lookup
returns-in-92 c = rw c.in-92.is

pub returns-in-110 : goal.returns-in-110
unfolding escaped escapes lookup
returns-in-110 c = rw c.in-110.is

pub returns-in-116 : goal.returns-in-116
unfolding escaped escapes lookup
returns-in-116 c = rw c.in-116.is

pub returns-in_default : goal.returns-in_default
unfolding escaped escapes
returns-in_default c = missed _ _ _ _ (λ e. omega arith) (missed _ _ _ _ (λ e. omega arith) (missed _ _ _ _ (λ e. omega arith) (missed _ _ _ _ (λ e. omega arith) (missing _))))
