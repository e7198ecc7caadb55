use Rattle.lexing.specs.integers.{largest}
use Rattle.lexing.proofs.integers.largest_of.Goals as goal

pub returns-then-negative : goal.returns-then-negative
unfolding largest
returns-then-negative c = rw c.if-negative.true

pub returns : goal.returns
unfolding largest
returns c = rw c.if-negative.false
