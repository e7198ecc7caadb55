use mathlib.Core.Path.{◌∙◌}
use native.Mathlib.Omega.{arith}
use Rattle.lexing.proofs.bytes.Laws.{lower_case}
use Rattle.lexing.proofs.bytes.lower_of.Goals as goal

pub returns : goal.returns
returns c = c.to_ascii_lowercase.ensures.value ∙ lower_case c.args.x (omega arith)
