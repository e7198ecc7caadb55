use Rattle.lexing.proofs.integers.is_digit_in.Goals as goal

pub returns-then-hex : goal.returns-then-hex
returns-then-hex c = rw c.if-hex.true c.is_hex.ensures

pub returns : goal.returns
returns c = rw c.if-hex.false c.is_digit.ensures
