use Rattle.items.proofs.maturity.Laws.{by_word, by_none}
use Rattle.items.proofs.maturity.maturity_by.Goals as goal

pub returns-in_default : goal.returns-in_default
returns-in_default c = by_none _ _ _ _ _ c.in_default.ensures

pub returns : goal.returns
returns c = by_word _ _ _ _ c.in-Ok.ensures
