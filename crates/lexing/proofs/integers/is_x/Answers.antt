use borrow.Author.Tests.{eq-eqb, ne_eqb}
use Rattle.lexing.proofs.integers.is_x.Goals as goal

pub returns-then-x-eq120 : goal.returns-then-x-eq120
returns-then-x-eq120 c = simp (eq-eqb _ _ c.if-x-eq120.true)

pub returns : goal.returns
returns c = cc (ne_eqb _ _ c.if-x-eq120.false)
