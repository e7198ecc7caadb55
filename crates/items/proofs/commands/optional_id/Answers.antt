use Rattle.items.proofs.commands.Laws.{id_there, id_absent}
use Rattle.items.proofs.commands.optional_id.Goals as goal

pub returns-in_default : goal.returns-in_default
returns-in_default c = record { at = c.in_default.ensures.at; reads = id_absent _ _ _ c.in_default.ensures.reads }

pub returns : goal.returns
returns c = record { at = c.in-Ok.ensures.at; reads = id_there _ _ c.in-Ok.ensures.reads }
