use mathlib.Core.Path.{refl}
use native.Mathlib.Omega.{arith}
use Rattle.lexing.proofs.steps.Laws.{blank_at_took}
use Rattle.items.proofs.maturity.Laws.{between_is, between_none}
use Rattle.items.proofs.maturity.maturity_between.Goals as goal

pub blank_at-c1-requires : goal.blank_at-c1-requires
blank_at-c1-requires c = omega (arith, c.requires)

pub overflow_sub-c1 : goal.overflow_sub-c1
overflow_sub-c1 c = let t = (blank_at_took c.blank_at-c1.ensures) in omega (arith, t.up)

pub returns-then-not-is_initial : goal.returns-then-not-is_initial
returns-then-not-is_initial c = between_none (blank_at_took c.blank_at-c1.ensures) c.peek.ensures refl c.is_initial.ensures c.if-not-is_initial.true

pub rest_at-requires : goal.rest_at-requires
rest_at-requires c = let t = (blank_at_took c.blank_at-c1.ensures) in omega (arith, t.up, t.inside)

pub maturity_blank-requires : goal.maturity_blank-requires
maturity_blank-requires c = omega (arith, c.rest_at.ensures.size, c.requires)

pub returns : goal.returns
returns c = between_is (blank_at_took c.blank_at-c1.ensures) c.rest_at.ensures c.maturity_blank.ensures
