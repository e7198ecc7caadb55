use native.Mathlib.Omega.{arith}
use Rattle.lexing.proofs.bytes.Laws.{letter_there, letter_else}
use Rattle.lexing.proofs.bytes.is_letter.Goals as goal

pub returns-then-is_ascii_alphabetic : goal.returns-then-is_ascii_alphabetic
returns-then-is_ascii_alphabetic c = letter_there c.args.x (omega arith) c.is_ascii_alphabetic.ensures.value c.if-is_ascii_alphabetic.true

pub returns-else-is_ascii_alphabetic : goal.returns-else-is_ascii_alphabetic
returns-else-is_ascii_alphabetic c = letter_else c.args.x (omega arith) c.is_ascii_alphabetic.ensures.value c.if-is_ascii_alphabetic.false
