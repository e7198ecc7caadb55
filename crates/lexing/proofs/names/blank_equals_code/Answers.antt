use native.Mathlib.Omega.{arith}
use Rattle.lexing.proofs.steps.Laws.{blank_at_took}
use Rattle.lexing.proofs.names.Laws.{equals_code_on, number_after}
use Rattle.lexing.proofs.names.blank_equals_code.Goals as goal

pub blank_at-n-requires : goal.blank_at-n-requires
blank_at-n-requires c = c.requires

pub equals_code-requires : goal.equals_code-requires
equals_code-requires c = let t = (blank_at_took c.blank_at-n.ensures) in omega (arith, t.up, t.inside, c.requires)

pub returns : goal.returns
returns c = number_after equals_code_on c.equals_code.result c.blank_at-n.ensures.at (blank_at_took c.blank_at-n.ensures) c.equals_code.ensures
