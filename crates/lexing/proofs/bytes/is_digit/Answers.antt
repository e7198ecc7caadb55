use Rattle.lexing.specs.bytes.{is_digit, within}
use Rattle.lexing.proofs.bytes.is_digit.Goals as goal

pub returns : goal.returns
unfolding is_digit within
returns c = c.is_ascii_digit.ensures.value
