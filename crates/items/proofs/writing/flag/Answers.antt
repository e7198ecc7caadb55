use Rattle.lexing.specs.word_sets.{bit}
use Rattle.items.proofs.writing.flag.Goals as goal

pub returns : goal.returns
unfolding bit
returns c = c.from.ensures
