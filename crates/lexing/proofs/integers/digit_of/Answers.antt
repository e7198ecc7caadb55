use mathlib.Core.Path.{sym, ◌∙◌}
use native.Mathlib.Omega.{arith}
use Rattle.lexing.proofs.Tests.{within_of}
use Rattle.lexing.proofs.integers.Laws.{digit_low, digit_decimal, digit_small, digit_capital, capital_low}
use Rattle.lexing.proofs.integers.digit_of.Goals as goal

pub overflow_sub-result : goal.overflow_sub-result
overflow_sub-result c = omega (arith, digit_low c.args.x (sym c.is_digit.ensures ∙ c.if-is_digit.true))

pub returns-then-is_digit : goal.returns-then-is_digit
returns-then-is_digit c = digit_decimal c.args.x (sym c.is_digit.ensures ∙ c.if-is_digit.true)

pub overflow_sub-result-then-is_between : goal.overflow_sub-result-then-is_between
overflow_sub-result-then-is_between c = omega (arith, within_of 0x61 0x66 c.args.x (sym c.is_between.ensures ∙ c.if-is_between.true))

pub overflow_add-result : goal.overflow_add-result
overflow_add-result c = omega (arith, within_of 0x61 0x66 c.args.x (sym c.is_between.ensures ∙ c.if-is_between.true))

pub returns-then-is_between : goal.returns-then-is_between
returns-then-is_between c = digit_small c.args.x (sym c.is_digit.ensures ∙ c.if-is_digit.false) (sym c.is_between.ensures ∙ c.if-is_between.true)

pub overflow_sub-result-2 : goal.overflow_sub-result-2
overflow_sub-result-2 c = omega (arith, capital_low c.args.x (sym c.is_digit.ensures ∙ c.if-is_digit.false) (sym c.is_between.ensures ∙ c.if-is_between.false) c.args.hex c.requires)

pub overflow_add-result-2 : goal.overflow_add-result-2
overflow_add-result-2 c = omega (arith, capital_low c.args.x (sym c.is_digit.ensures ∙ c.if-is_digit.false) (sym c.is_between.ensures ∙ c.if-is_between.false) c.args.hex c.requires)

pub returns : goal.returns
returns c = digit_capital c.args.x (sym c.is_digit.ensures ∙ c.if-is_digit.false) (sym c.is_between.ensures ∙ c.if-is_between.false)
