use native.Mathlib.Omega.{arith}
use Rattle.lexing.proofs.blanks.Laws.{blank_self, blanks_none, blanks_one}
use Rattle.lexing.proofs.blanks.whitespace0.Goals as goal

pub returns-then-x-gt47 : goal.returns-then-x-gt47
returns-then-x-gt47 c = blanks_none _ _ _ c.peek-x.ensures c.if-x-gt47.true

pub overflow_add-result : goal.overflow_add-result
overflow_add-result c = omega (arith, (blanks_one c.args.base c.args.part.now _ _ c.peek-x.ensures c.peek.ensures c.if-x-eq32.true c.if-peek-gt47.true).inside, c.requires)

pub returns-then-peek-gt47 : goal.returns-then-peek-gt47
returns-then-peek-gt47 c = (blanks_one c.args.base c.args.part.now _ _ c.peek-x.ensures c.peek.ensures c.if-x-eq32.true c.if-peek-gt47.true)

pub returns : goal.returns
returns c = blank_self c.blank_run.ensures
