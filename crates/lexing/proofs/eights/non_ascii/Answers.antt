use native.Mathlib.Omega.{arith}
use Rattle.lexing.proofs.eights.Laws.{ascii_fails}
use Rattle.lexing.proofs.eights.non_ascii.Goals as goal

pub returns : goal.returns
returns c = ascii_fails c.args.w (omega arith)
