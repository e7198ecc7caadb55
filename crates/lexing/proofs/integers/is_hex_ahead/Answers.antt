use Rattle.lexing.proofs.integers.Laws.{no_zero, no_x, by_third}
use Rattle.lexing.proofs.integers.is_hex_ahead.Goals as goal

pub returns-then-peek-ne48 : goal.returns-then-peek-ne48
returns-then-peek-ne48 c = no_zero _ _ c.peek.ensures c.if-peek-ne48.true

pub returns-then-not-is_x : goal.returns-then-not-is_x
returns-then-not-is_x c = no_x _ _ c.peek.ensures c.if-peek-ne48.false _ c.peek-2.ensures _ c.is_x.ensures c.if-not-is_x.true

pub returns : goal.returns
returns c = by_third _ _ c.peek.ensures c.if-peek-ne48.false _ c.peek-2.ensures _ c.is_x.ensures c.if-not-is_x.false _ c.peek-3.ensures _ c.is_hex.ensures
