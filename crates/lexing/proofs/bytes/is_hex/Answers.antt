use mathlib.Core.Path.{◌∙◌}
use native.Mathlib.Omega.{arith}
use Rattle.lexing.proofs.bytes.Laws.{hex_digit}
use Rattle.lexing.proofs.bytes.is_hex.Goals as goal

pub returns : goal.returns
returns c = c.is_ascii_hexdigit.ensures.value ∙ hex_digit c.args.x (omega arith)
