use Rattle.lexing.specs.declared.answers.LostBy.TheVariants.{Stop}
use mathlib.Core.Path.{refl}
use native.Mathlib.Omega.{arith}
use Rattle.lexing.proofs.Slicing.{or_here}
use Rattle.items.specs.endpoints.{value_tries}
use Rattle.items.proofs.Choice.{or_past, or_stop}
use Rattle.items.proofs.defaults.Laws.{value_is, value_not, number_try, number_lost, number_not, signed_try, signed_not}
use Rattle.items.proofs.defaults.value_tries.Goals as goal

pub returns-in-Ok : goal.returns-in-Ok
unfolding value_tries
returns-in-Ok c = value_is value_tries refl (or_here _ _ _ _ _ _ _ (number_try _ _ c.in-Ok.ensures)) tt

pub returns-in-Err-Stop : goal.returns-in-Err-Stop
unfolding value_tries
returns-in-Err-Stop c = value_not value_tries _ (or_stop _ _ _ _ _ _ (number_lost _ _ (Stop _ _) (rw c.in-Err-Stop.field-0-is at c.in-Err-Stop.ensures)))

pub returns-in-Ok-signed_integer : goal.returns-in-Ok-signed_integer
unfolding value_tries
returns-in-Ok-signed_integer c = value_is value_tries refl (or_past _ _ _ _ _ (number_not _ _ (rw c.in-Err-Fail.field-0-is at c.in-Err-Fail.ensures)) tt (or_here _ _ _ _ _ _ _ (signed_try _ _ c.in-Ok-signed_integer.ensures))) tt

pub word_value-requires : goal.word_value-requires
word_value-requires c = record { part_bound = omega (arith, c.requires); no_number_at = record { unsigned = number_not _ _ (rw c.in-Err-Fail.field-0-is at c.in-Err-Fail.ensures); with_sign = signed_not _ _ _ c.in_default.ensures } }
