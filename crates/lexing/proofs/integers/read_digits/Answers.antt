use mathlib.Core.Path.{sym, ◌∙◌}
use native.Mathlib.Omega.{arith}
use Rattle.lexing.proofs.integers.Laws.{digits_start, digits_stop, digits_more, digits_over, digits_out, with_room, without_room}
use Rattle.lexing.proofs.integers.read_digits.Goals as goal

pub loop-i-init : goal.loop-i-init
loop-i-init c = digits_start _ _

pub returns-then-not-is_digit_in : goal.returns-then-not-is_digit_in
returns-then-not-is_digit_in c = digits_stop c.args.hex _ _ _ c.loop-i.invariant c.loop-i-test.true (sym c.is_digit_in.ensures ∙ c.if-not-is_digit_in.true)

pub digit_of-d-requires : goal.digit_of-d-requires
digit_of-d-requires c = (sym c.is_digit_in.ensures ∙ c.if-not-is_digit_in.false)

pub returns-then-not-fits_with : goal.returns-then-not-fits_with
returns-then-not-fits_with c = digits_over c.args.hex _ _ _ c.loop-i.invariant c.loop-i-test.true (sym c.is_digit_in.ensures ∙ c.if-not-is_digit_in.false) _ _ c.radix_of-base.ensures c.digit_of-d.ensures
    (without_room c.args.hex _ _ _ c.radix_of-base.ensures _ c.fits_with.ensures c.if-not-fits_with.true)

pub overflow_mul-v : goal.overflow_mul-v
overflow_mul-v c = omega (arith, (with_room c.args.hex c.loop-i.v c.digit_of-d.result c.radix_of-base.result c.radix_of-base.ensures _ c.fits_with.ensures c.if-not-fits_with.false))

pub overflow_add-v : goal.overflow_add-v
overflow_add-v c = omega (arith, (with_room c.args.hex c.loop-i.v c.digit_of-d.result c.radix_of-base.result c.radix_of-base.ensures _ c.fits_with.ensures c.if-not-fits_with.false))

pub loop-i-preserved : goal.loop-i-preserved
loop-i-preserved c = digits_more c.args.hex _ _ _ c.loop-i.invariant c.loop-i-test.true (sym c.is_digit_in.ensures ∙ c.if-not-is_digit_in.false) _ _ c.radix_of-base.ensures c.digit_of-d.ensures (with_room c.args.hex c.loop-i.v c.digit_of-d.result c.radix_of-base.result c.radix_of-base.ensures _ c.fits_with.ensures c.if-not-fits_with.false)

pub returns : goal.returns
returns c = digits_out c.args.hex _ _ _ c.loop-i.invariant c.loop-i-test.false
