use Rattle.matter_idl.proofs.sections.Laws.{uncut_start, uncut_run}
use Rattle.matter_idl.proofs.sections.cutless.Goals as goal

pub loop-i-init : goal.loop-i-init
loop-i-init c = uncut_start _

pub loop-i-preserved : goal.loop-i-preserved
loop-i-preserved c = uncut_run 64 c.loop-i.invariant c.loop-i-test.true c.cut_64.ensures c.if-not-cut_64.true

pub returns-else-not-cut_64 : goal.returns-else-not-cut_64
returns-else-not-cut_64 c = c.loop-i.invariant

pub returns-after-loop-i : goal.returns-after-loop-i
returns-after-loop-i c = c.loop-i.invariant
