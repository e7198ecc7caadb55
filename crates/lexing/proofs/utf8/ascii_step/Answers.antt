use native.Mathlib.Omega.{arith}
use lib.Count.{trailing_le}
use Rattle.lexing.proofs.utf8.Laws.{ascii_one, ascii_run, ascii_some, ascii_eight}
use Rattle.lexing.proofs.utf8.ascii_step.Goals as goal

pub returns-then-left-lt8 : goal.returns-then-left-lt8
returns-then-left-lt8 c = ascii_one _ _ c.requires.0 c.requires.1

pub returns-then-or_64-lt128 : goal.returns-then-or_64-lt128
returns-then-or_64-lt128 c = ascii_run 64 c.requires.1 (omega arith) c.or_64.ensures c.if-or_64-lt128.true

pub returns-then-m-eq0 : goal.returns-then-m-eq0
returns-then-m-eq0 c = ascii_eight c.requires.1 (omega arith) (λ j. (c.shared_slice_known-1.given j).fits) c.eight_at.ensures c.non_ascii-m.ensures c.if-m-eq0.true

pub overflow_cast-result : goal.overflow_cast-result
overflow_cast-result c = omega (arith, trailing_le 64 c.non_ascii-m.result)

pub returns : goal.returns
returns c = ascii_some c.requires.1 (omega arith) (λ j. (c.shared_slice_known-1.given j).fits) c.eight_at.ensures c.non_ascii-m.ensures
