use mathlib.Core.Path.{sym, ap, ◌∙◌}
use mathlib.Core.Bool.{Bool}
use Rattle.items.specs.inner.structs.{kind_by}
use Rattle.items.proofs.structs.kind_by.Goals as goal

pub returns-then-is_lower : goal.returns-then-is_lower
returns-then-is_lower c = sym (ap (λ (x : Bool). kind_by x c.args.kind) (sym c.is_lower.ensures ∙ c.if-is_lower.true))

pub returns : goal.returns
returns c = sym (ap (λ (x : Bool). kind_by x c.args.kind) (sym c.is_lower.ensures ∙ c.if-is_lower.false))
