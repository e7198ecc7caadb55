use mathlib.Core.Path.{refl}
use mathlib.Core.Bool.{true}
use native.Mathlib.Omega.{arith}
use Rattle.lexing.proofs.integers.Laws.{hex_inside, digits_inside, integer_over, integer_value}
use Rattle.lexing.proofs.integers.hex_integer.Goals as goal

pub returns-in_default : goal.returns-in_default
returns-in_default c = integer_over true _ _ _ c.requires.part_value c.after.ensures _ c.read_digits.ensures c.in_default.is

pub overflow_add-result : goal.overflow_add-result
overflow_add-result c = omega (arith, digits_inside true _ _ c.read_digits.ensures c.in-Some.is 2 c.args.part.now (omega (arith, hex_inside c.args.part.now c.requires.part_value)) c.after.ensures, c.requires.part_bound)

pub overflow_add-result-2 : goal.overflow_add-result-2
overflow_add-result-2 c = omega (arith, digits_inside true _ _ c.read_digits.ensures c.in-Some.is 2 c.args.part.now (omega (arith, hex_inside c.args.part.now c.requires.part_value)) c.after.ensures, c.requires.part_bound)

pub returns : goal.returns
returns c = integer_value true _ _ _ c.requires.part_value c.after.ensures _ c.read_digits.ensures c.in-Some.is _ refl
