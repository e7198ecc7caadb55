use mathlib.Core.Path.{refl, sym, ◌∙◌}
use Rattle.items.proofs.member_kinds.event_or_command.Goals as goal

pub returns-then-starts : goal.returns-then-starts
returns-then-starts c = rw (sym c.starts.ensures ∙ c.if-starts.true) refl

pub returns : goal.returns
returns c = rw (sym c.starts.ensures ∙ c.if-starts.false) refl
