use Rattle.lexing.proofs.word_sets.Laws.{end_missing, end_there}
use Rattle.lexing.proofs.word_sets.keyword_end.Goals as goal

pub returns-in_default : goal.returns-in_default
returns-in_default c = end_missing _ c.in_default.ensures

pub returns : goal.returns
returns c = end_there c.in-Ok.ensures
