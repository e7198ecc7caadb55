use mathlib.Core.Path.{sym, ◌∙◌}
use mathlib.Core.Bool.{true, false}
use native.Mathlib.Omega.{arith}
use Rattle.lexing.proofs.Slicing.{rest_self, keyword_took}
use Rattle.items.proofs.attributes.Laws.{operation_is, operation_not}
use Rattle.items.proofs.attributes.operation_by.Goals as goal

pub returns-in_default : goal.returns-in_default
returns-in_default c = operation_not c.args.key.now _ _ _ c.in_default.ensures

pub overflow_sub-c : goal.overflow_sub-c
overflow_sub-c c = let t = (keyword_took (rest_self _ _) c.args.key.now c.in-Ok.ensures) in omega (arith, t.up)

pub is_lower-requires : goal.is_lower-requires
is_lower-requires c = let t = (keyword_took (rest_self _ _) c.args.key.now c.in-Ok.ensures) in omega (arith, t.up, t.inside)

pub returns-then-is_lower : goal.returns-then-is_lower
returns-then-is_lower c = operation_is c.args.key.now _ _ c.in-Ok.ensures c.args.operation c.requires.key_value true (sym c.is_lower.ensures ∙ c.if-is_lower.true)

pub returns : goal.returns
returns c = operation_is c.args.key.now _ _ c.in-Ok.ensures c.args.operation c.requires.key_value false (sym c.is_lower.ensures ∙ c.if-is_lower.false)
