use Rattle.items.specs.layout.{layout}
use Rattle.items.specs.stored.{further_at}
use Rattle.items.proofs.records.further_word_at.Goals as goal

pub returns : goal.returns
unfolding further_at layout
returns c = c.word_at.ensures
