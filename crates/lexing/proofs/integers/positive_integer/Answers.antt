use Rattle.lexing.proofs.Losses.{passed_on}
use mathlib.Core.Path.{sym, ◌∙◌, ap}
use native.Mathlib.Omega.{arith}
use Rattle.lexing.specs.bytes.{is_digit}
use Rattle.lexing.proofs.integers.Laws.{digit_inside, no_digit, two_digits, one_digit}
use Rattle.lexing.proofs.integers.positive_integer.Goals as goal

pub returns-then-not-is_digit : goal.returns-then-not-is_digit
returns-then-not-is_digit c = no_digit _ c.args.part.now (ap is_digit (sym c.peek-x.ensures) ∙ (sym c.is_digit.ensures ∙ c.if-not-is_digit.true))

pub returns-in_err-v : goal.returns-in_err-v
returns-in_err-v c = rw (passed_on c.from_residual.ensures) (c.in_err-v.ensures ∙ two_digits _ c.args.part.now _ c.peek-y.ensures (sym c.is_digit-2.ensures ∙ c.if-is_digit.true))

pub returns-then-is_digit : goal.returns-then-is_digit
returns-then-is_digit c = (c.in_ok-v.ensures ∙ two_digits _ c.args.part.now _ c.peek-y.ensures (sym c.is_digit-2.ensures ∙ c.if-is_digit.true))

pub returns-then-is_x : goal.returns-then-is_x
returns-then-is_x c = c.any_integer.ensures

pub digit_of-requires : goal.digit_of-requires
digit_of-requires c = (sym c.is_digit.ensures ∙ c.if-not-is_digit.false)

pub overflow_add-result : goal.overflow_add-result
overflow_add-result c = omega (arith, digit_inside c.args.part.now (ap is_digit (sym c.peek-x.ensures) ∙ (sym c.is_digit.ensures ∙ c.if-not-is_digit.false)))

pub returns : goal.returns
returns c = one_digit _ c.args.part.now _ c.peek-y.ensures _ c.peek-x.ensures (sym c.is_digit.ensures ∙ c.if-not-is_digit.false) (sym c.is_digit-2.ensures ∙ c.if-is_digit.false) _ c.is_x.ensures c.if-is_x.false _ c.digit_of.ensures
