use Rattle.lexing.specs.bytes.{is_word}
use Rattle.lexing.proofs.bytes.is_word.Goals as goal

pub returns-then-is_letter : goal.returns-then-is_letter
unfolding is_word
returns-then-is_letter c = cc

pub returns-else-is_letter : goal.returns-else-is_letter
unfolding is_word
returns-else-is_letter c = cc
