use native.Mathlib.Omega.{arith}
use Prim.Native.Nat.{◌+◌}
use Rattle.lexing.proofs.eights.Laws.{four_le, eight_sum}
use Rattle.lexing.proofs.eights.eight_at.Goals as goal

pub overflow_mul-result : goal.overflow_mul-result
overflow_mul-result c = omega (arith, c.four_at-2.ensures, four_le c.args.part.now (c.args.i + 4) (λ j. (c.shared_slice_known-1.given j).fits))

pub overflow_add-result : goal.overflow_add-result
overflow_add-result c = omega (arith, c.four_at.ensures, c.four_at-2.ensures, four_le c.args.part.now c.args.i (λ j. (c.shared_slice_known-1.given j).fits), four_le c.args.part.now (c.args.i + 4) (λ j. (c.shared_slice_known-1.given j).fits))

pub returns : goal.returns
returns c = omega (arith, c.four_at.ensures, c.four_at-2.ensures, eight_sum c.args.part.now c.args.i)
