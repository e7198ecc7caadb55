use native.Mathlib.Omega.{arith}
use Rattle.lexing.proofs.eights.Laws.{folded_fits, alpha_fails}
use Rattle.lexing.proofs.eights.non_letters.Goals as goal

pub overflow_sub-outside : goal.overflow_sub-outside
overflow_sub-outside c = omega (arith, folded_fits c.args.w (omega arith))

pub overflow_add-outside : goal.overflow_add-outside
overflow_add-outside c = omega (arith, folded_fits c.args.w (omega arith))

pub returns : goal.returns
returns c = alpha_fails c.args.w (omega arith)
