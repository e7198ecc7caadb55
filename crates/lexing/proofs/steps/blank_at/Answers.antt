use native.Mathlib.Omega.{arith}
use Rattle.lexing.proofs.steps.Laws.{blank_none, blank_one, blank_one_in}
use Rattle.lexing.proofs.steps.blank_at.Goals as goal

pub returns-then-x-gt47 : goal.returns-then-x-gt47
returns-then-x-gt47 c = blank_none c.args.base c.args.c c.args.part.now c.requires.0 c.peek-x.ensures c.if-x-gt47.true

pub overflow_add-result : goal.overflow_add-result
overflow_add-result c = omega (arith, blank_one_in c.args.base c.args.c c.args.part.now c.requires.0 c.peek-x.ensures c.peek.ensures c.if-x-eq32.true c.if-peek-gt47.true, c.requires.1)

pub returns-then-peek-gt47 : goal.returns-then-peek-gt47
returns-then-peek-gt47 c = blank_one c.args.base c.args.c c.args.part.now c.requires.0 c.peek-x.ensures c.peek.ensures c.if-x-eq32.true c.if-peek-gt47.true

pub returns : goal.returns
returns c = c.blank_end.ensures
