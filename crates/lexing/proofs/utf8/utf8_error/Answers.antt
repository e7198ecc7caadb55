use Rattle.lexing.proofs.utf8.Laws.{passed_start, passed_more, passed_end, passed_run, passed_ill, rest_first, positive}
use native.Mathlib.Omega.{arith}
use Rattle.lexing.proofs.utf8.utf8_error.Goals as goal

pub loop-i-init : goal.loop-i-init
loop-i-init c = passed_start _ _

pub loop-i-preserved-then-part-i-lt128 : goal.loop-i-preserved-then-part-i-lt128
loop-i-preserved-then-part-i-lt128 c = passed_run _ _ _ c.loop-i.invariant _ c.ascii_step-i.ensures

pub sequence_size-requires : goal.sequence_size-requires
sequence_size-requires c = rest_first _ _ _ c.loop-i.invariant c.loop-i-test.true c.if-part-i-lt128.false

pub returns-in_default : goal.returns-in_default
returns-in_default c = passed_ill _ _ _ c.loop-i.invariant c.loop-i-test.true c.in_default.ensures

pub loop-i-smaller : goal.loop-i-smaller
loop-i-smaller c = omega (arith, c.loop-i-test.true, positive _ _ c.in-Some.ensures)

pub overflow_add-i-in-loop-i : goal.overflow_add-i-in-loop-i
overflow_add-i-in-loop-i c = omega (arith, (passed_more _ _ _ c.loop-i.invariant _ c.in-Some.ensures).reach)

pub loop-i-preserved : goal.loop-i-preserved
loop-i-preserved c = passed_more _ _ _ c.loop-i.invariant _ c.in-Some.ensures

pub returns : goal.returns
returns c = passed_end _ _ _ c.loop-i.invariant c.loop-i-test.false
