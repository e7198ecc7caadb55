use mathlib.Core.Path.{sym, ◌∙◌}
use Rattle.lexing.proofs.integers.Laws.{hex_first, then_decimal}
use Rattle.lexing.proofs.integers.any_integer.Goals as goal

pub hex_integer-requires : goal.hex_integer-requires
hex_integer-requires c = record { part_bound = c.requires; part_value = sym c.is_hex_ahead.ensures ∙ c.if-is_hex_ahead.true }

pub returns-then-is_hex_ahead : goal.returns-then-is_hex_ahead
returns-then-is_hex_ahead c = c.hex_integer.ensures ∙ hex_first _ _ (sym c.is_hex_ahead.ensures ∙ c.if-is_hex_ahead.true)

pub returns : goal.returns
returns c = c.decimal_integer.ensures ∙ then_decimal _ _ (sym c.is_hex_ahead.ensures ∙ c.if-is_hex_ahead.false)
