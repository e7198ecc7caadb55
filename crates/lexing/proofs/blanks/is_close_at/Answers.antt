use borrow.Author.Tests.{ne_eqb}
use Rattle.lexing.proofs.blanks.Laws.{close_second}
use Rattle.lexing.proofs.blanks.is_close_at.Goals as goal

pub returns-then-part-i-ne42 : goal.returns-then-part-i-ne42
returns-then-part-i-ne42 c = simp (ne_eqb _ _ c.if-part-i-ne42.true)

pub returns : goal.returns
returns c = close_second _ _ _ c.if-part-i-ne42.false c.peek.ensures
