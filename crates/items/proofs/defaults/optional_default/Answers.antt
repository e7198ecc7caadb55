use native.Mathlib.Omega.{arith}
use Rattle.lexing.specs.reply.{◌>>◌}
use Rattle.lexing.specs.blanks.{whitespace1}
use Rattle.lexing.proofs.Slicing.{begin, on, fall}
use Rattle.items.specs.endpoints.{default_attribute_value}
use Rattle.lexing.proofs.steps.Laws.{gap_at_took, skips_lost}
use Rattle.items.proofs.defaults.Laws.{optional_is, value_not, value_end, default_on}
use Rattle.items.proofs.defaults.optional_default.Goals as goal

pub rest_at-requires : goal.rest_at-requires
rest_at-requires c = let t = gap_at_took c.in-Ok.ensures in omega (arith, t.up, t.inside)

pub returns-in-Ok : goal.returns-in-Ok
returns-in-Ok c = optional_is (whitespace1 >> default_attribute_value) c.default_attribute_value.result _ _ _ c.optional_value.ensures (value_end default_on (whitespace1 >> default_attribute_value) c.default_attribute_value.result c.rest_at.ensures (λ X e. begin (whitespace1 >> default_attribute_value) _ _ (on default_attribute_value (gap_at_took c.in-Ok.ensures) e)) c.default_attribute_value.ensures)

pub returns-in-Err : goal.returns-in-Err
returns-in-Err c = optional_is (whitespace1 >> default_attribute_value) _ _ _ _ c.optional_value-in-Err.ensures (value_not (whitespace1 >> default_attribute_value) _ (begin (whitespace1 >> default_attribute_value) _ _ (fall _ _ _ c.in-Err.ensures.at (skips_lost c.in-Err.ensures))))
