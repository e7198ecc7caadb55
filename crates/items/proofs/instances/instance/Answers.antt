use native.Mathlib.Omega.{arith}
use mathlib.Core.Path.{sym, ap, ◌∙◌}
use Rattle.lexing.specs.bytes.{lower}
use Rattle.items.proofs.instances.Laws.{command_alone, event_alone, attribute_found, attribute_alone}
use Rattle.items.proofs.instances.instance.Goals as goal

pub returns-in-Ok : goal.returns-in-Ok
returns-in-Ok c = attribute_found _ _ c.in-Ok.ensures

pub returns-in-104 : goal.returns-in-104
returns-in-104 c = command_alone _ _ ((ap lower (sym c.peek.ensures) ∙ sym c.lower_of.ensures) ∙ c.in-104.is) _ c.command_instance.ensures

pub returns-in-101 : goal.returns-in-101
returns-in-101 c = event_alone _ _ ((ap lower (sym c.peek.ensures) ∙ sym c.lower_of.ensures) ∙ c.in-101.is) _ c.event_instance.ensures

pub returns-in_default : goal.returns-in_default
returns-in_default c = attribute_alone _ _ _ ((tt, omega arith), omega arith) (ap lower (sym c.peek.ensures) ∙ sym c.lower_of.ensures) c.in-Err.ensures
