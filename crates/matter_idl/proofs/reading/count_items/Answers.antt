use Rattle.lexing.proofs.Losses.{passed_on}
use native.Mathlib.Omega.{arith}
use Rattle.lexing.proofs.Slicing.{blank_took}
use Rattle.lexing.proofs.steps.Laws.{rest_clear}
use Rattle.matter_idl.proofs.reading.Laws.{items_start, items_more, items_lost, items_ended}
use Rattle.matter_idl.proofs.reading.count_items.Goals as goal

pub loop-base-init : goal.loop-base-init
loop-base-init c = items_start _ _

pub rest_at-requires : goal.rest_at-requires
rest_at-requires c = omega (arith, c.loop-base.invariant.run.from, c.loop-base.invariant.run.inside)

pub whitespace0-w-requires : goal.whitespace0-w-requires
whitespace0-w-requires c = omega (arith, c.rest_at.ensures.size, c.requires)

pub returns-then-start-end : goal.returns-then-start-end
returns-then-start-end c = items_ended c.loop-base.invariant c.rest_at.ensures c.whitespace0-w.ensures c.if-start-end.true

pub rest_at-requires-in-loop-base : goal.rest_at-requires-in-loop-base
rest_at-requires-in-loop-base c = omega (arith, (blank_took c.rest_at.ensures c.whitespace0-w.ensures).up, (blank_took c.rest_at.ensures c.whitespace0-w.ensures).inside, c.rest_at.ensures.from)

pub count_declaration-requires : goal.count_declaration-requires
count_declaration-requires c = record { part_bound = omega (arith, c.rest_at-in-loop-base.ensures.size, c.requires); part_value = rest_clear (blank_took c.rest_at.ensures c.whitespace0-w.ensures) c.rest_at-in-loop-base.ensures }

pub returns-in_err-k : goal.returns-in_err-k
returns-in_err-k c = rw (passed_on c.from_residual.ensures) (items_lost c.loop-base.invariant c.rest_at.ensures c.whitespace0-w.ensures c.rest_at-in-loop-base.ensures c.if-start-end.false _ c.in_err-k.ensures)

pub overflow_add-n : goal.overflow_add-n
overflow_add-n c = let s = items_more c.loop-base.invariant c.rest_at.ensures c.whitespace0-w.ensures c.rest_at-in-loop-base.ensures c.in_ok-k.ensures in omega (arith, s.0.few, s.0.run.inside, c.requires)

pub loop-base-smaller : goal.loop-base-smaller
loop-base-smaller c = let s = items_more c.loop-base.invariant c.rest_at.ensures c.whitespace0-w.ensures c.rest_at-in-loop-base.ensures c.in_ok-k.ensures in omega (arith, s.1, s.0.run.inside)

pub loop-base-preserved : goal.loop-base-preserved
loop-base-preserved c = let s = items_more c.loop-base.invariant c.rest_at.ensures c.whitespace0-w.ensures c.rest_at-in-loop-base.ensures c.in_ok-k.ensures in s.0
