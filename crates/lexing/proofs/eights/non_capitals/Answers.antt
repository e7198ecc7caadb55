use native.Mathlib.Omega.{arith}
use lib.Bits.{and_le_r}
use Rattle.lexing.proofs.eights.Laws.{capital_fails}
use Rattle.lexing.proofs.eights.non_capitals.Goals as goal

pub overflow_sub-outside : goal.overflow_sub-outside
overflow_sub-outside c = omega (arith, and_le_r c.args.w 0x7f7f7f7f7f7f7f7f)

pub overflow_add-outside : goal.overflow_add-outside
overflow_add-outside c = omega (arith, and_le_r c.args.w 0x7f7f7f7f7f7f7f7f)

pub returns : goal.returns
returns c = capital_fails c.args.w (omega arith)
