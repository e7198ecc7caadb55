use native.Mathlib.Omega.{arith}
use Rattle.lexing.proofs.eights.Laws.{other_fits, other_fails}
use Rattle.lexing.proofs.eights.bytes_other_than.Goals as goal

pub overflow_add-some : goal.overflow_add-some
overflow_add-some c = rw c.from.ensures (omega (arith, other_fits c.args.w c.args.x))

pub returns : goal.returns
returns c = rw c.from.ensures (other_fails c.args.w c.args.x (omega arith) (omega arith))
