use mathlib.Core.Path.{refl, sym, ◌∙◌, ap}
use mathlib.Core.Bool.{false}
use Prim.Native.Nat.{zero-le}
use native.Mathlib.Omega.{arith}
use Rattle.lexing.specs.bytes.{is_digit}
use Rattle.lexing.proofs.integers.Laws.{digits_inside, decimal_no, integer_over, integer_value}
use Rattle.lexing.proofs.integers.decimal_integer.Goals as goal

pub returns-then-not-is_digit : goal.returns-then-not-is_digit
returns-then-not-is_digit c = decimal_no _ _ (ap is_digit (sym c.peek.ensures) ∙ (sym c.is_digit.ensures ∙ c.if-not-is_digit.true))

pub returns-in_default : goal.returns-in_default
returns-in_default c = integer_over false _ c.args.part.now _ (ap is_digit (sym c.peek.ensures) ∙ (sym c.is_digit.ensures ∙ c.if-not-is_digit.false)) refl _ c.read_digits.ensures c.in_default.is

pub overflow_add-result : goal.overflow_add-result
overflow_add-result c = omega (arith, digits_inside false _ _ c.read_digits.ensures c.in-Some.is 0 c.args.part.now zero-le refl)

pub returns : goal.returns
returns c = integer_value false _ c.args.part.now _ (ap is_digit (sym c.peek.ensures) ∙ (sym c.is_digit.ensures ∙ c.if-not-is_digit.false)) refl _ c.read_digits.ensures c.in-Some.is _ (omega arith)
