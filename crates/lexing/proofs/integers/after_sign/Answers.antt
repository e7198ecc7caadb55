use mathlib.Core.Path.{sym, ◌∙◌, ap}
use mathlib.Core.Bool.{false}
use native.Mathlib.Omega.{arith}
use Rattle.lexing.specs.bytes.{is_digit}
use Rattle.lexing.proofs.integers.Laws.{digits_inside, sign_alone, signed_over, signed_beyond, signed_value}
use Rattle.lexing.proofs.integers.after_sign.Goals as goal

pub returns-then-not-is_digit : goal.returns-then-not-is_digit
returns-then-not-is_digit c = sign_alone _ _ c.args.part.now _ c.after-rest.ensures (ap is_digit (sym c.peek.ensures) ∙ (sym c.is_digit.ensures ∙ c.if-not-is_digit.true))

pub returns-in_default : goal.returns-in_default
returns-in_default c = signed_over _ _ c.args.part.now _ c.after-rest.ensures (ap is_digit (sym c.peek.ensures) ∙ (sym c.is_digit.ensures ∙ c.if-not-is_digit.false)) _ c.read_digits.ensures c.in_default.is

pub returns-then-largest_of-v : goal.returns-then-largest_of-v
returns-then-largest_of-v c = signed_beyond _ _ c.args.part.now _ c.after-rest.ensures (ap is_digit (sym c.peek.ensures) ∙ (sym c.is_digit.ensures ∙ c.if-not-is_digit.false)) _ c.read_digits.ensures c.in-Some.is _ c.largest_of.ensures c.if-largest_of-v.true

pub overflow_add-result : goal.overflow_add-result
overflow_add-result c = omega (arith, digits_inside false _ _ c.read_digits.ensures c.in-Some.is 1 c.args.part.now c.requires.part_nonzero c.after-rest.ensures, c.requires.part_bound)

pub overflow_add-result-2 : goal.overflow_add-result-2
overflow_add-result-2 c = omega (arith, digits_inside false _ _ c.read_digits.ensures c.in-Some.is 1 c.args.part.now c.requires.part_nonzero c.after-rest.ensures, c.requires.part_bound)

pub returns : goal.returns
returns c = signed_value _ _ c.args.part.now _ c.after-rest.ensures (ap is_digit (sym c.peek.ensures) ∙ (sym c.is_digit.ensures ∙ c.if-not-is_digit.false)) _ c.read_digits.ensures c.in-Some.is _ c.largest_of.ensures c.if-largest_of-v.false
