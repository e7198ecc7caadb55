use Rattle.matter_idl.proofs.filter.Laws.{adding_start, adding_more, adding_end}
use Rattle.matter_idl.proofs.filter.add.Goals as goal

pub loop-j-init : goal.loop-j-init
loop-j-init c = adding_start _ _

pub loop-j-preserved : goal.loop-j-preserved
loop-j-preserved c = adding_more c.loop-j.invariant c.loop-j-test.true c.position.ensures.value c.set.ensures

pub returns : goal.returns
returns c = adding_end c.loop-j.invariant c.loop-j-test.false
