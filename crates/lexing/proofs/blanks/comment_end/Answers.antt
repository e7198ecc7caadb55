use native.Mathlib.Omega.{arith}
use Rattle.lexing.proofs.blanks.Laws.{until_start, until_eight, until_more, until_found, until_end}
use Rattle.lexing.proofs.blanks.comment_end.Goals as goal

pub loop-i-init : goal.loop-i-init
loop-i-init c = until_start _

pub overflow_add-i : goal.overflow_add-i
overflow_add-i c = omega (arith, (until_eight _ _ c.loop-i.invariant c.eight_without.result c.eight_without.ensures c.if-eight_without.true).inside)

pub loop-i-smaller-then-eight_without : goal.loop-i-smaller-then-eight_without
loop-i-smaller-then-eight_without c = omega (arith, (until_eight _ _ c.loop-i.invariant c.eight_without.result c.eight_without.ensures c.if-eight_without.true).inside)

pub loop-i-preserved-then-eight_without : goal.loop-i-preserved-then-eight_without
loop-i-preserved-then-eight_without c = (until_eight _ _ c.loop-i.invariant c.eight_without.result c.eight_without.ensures c.if-eight_without.true)

pub returns-then-is_close_at : goal.returns-then-is_close_at
returns-then-is_close_at c = until_found _ _ c.loop-i.invariant c.loop-i-test.true _ c.is_close_at.ensures c.if-is_close_at.true

pub loop-i-preserved : goal.loop-i-preserved
loop-i-preserved c = until_more _ _ c.loop-i.invariant c.loop-i-test.true _ c.is_close_at.ensures c.if-is_close_at.false

pub returns : goal.returns
returns c = until_end _ _ c.loop-i.invariant c.loop-i-test.false
