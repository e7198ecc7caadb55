use native.Mathlib.Omega.{arith}
use Rattle.lexing.proofs.eights.Laws.{four_sum}
use Rattle.lexing.proofs.eights.four_at.Goals as goal

pub returns : goal.returns
returns c = omega (arith, four_sum c.args.part.now c.args.i, c.from.ensures, c.from-2.ensures, c.from-3.ensures, c.from-4.ensures)
