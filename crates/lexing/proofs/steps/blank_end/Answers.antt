use Rattle.lexing.proofs.Slicing.{rest_from}
use Rattle.lexing.proofs.steps.Laws.{blank_is}
use Rattle.lexing.proofs.steps.blank_end.Goals as goal

pub returns : goal.returns
returns c = blank_is (rest_from _ _ _ c.requires.0.0 c.requires.0.1) c.blank_run.ensures
