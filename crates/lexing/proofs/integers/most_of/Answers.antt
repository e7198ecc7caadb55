use Rattle.lexing.proofs.integers.most_of.Goals as goal

pub returns-then-hex : goal.returns-then-hex
returns-then-hex c = rw c.if-hex.true

pub returns : goal.returns
returns c = rw c.if-hex.false
