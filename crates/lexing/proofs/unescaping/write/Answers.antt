use Rattle.lexing.proofs.unescaping.Laws.{writing_start, writing_end, writing_fault, writing_fits, writing_more}
use Rattle.lexing.proofs.unescaping.write.Goals as goal

pub loop-at-init : goal.loop-at-init
loop-at-init c = writing_start _ _ c.requires

pub returns-in_default : goal.returns-in_default
returns-in_default c = absurd (writing_fault _ _ c.requires c.loop-at.invariant (rw c.in_default.is at c.next_piece.ensures))

pub bounds-output-n : goal.bounds-output-n
bounds-output-n c = writing_fits _ _ c.requires c.loop-at.invariant c.in-Some.ensures

pub loop-at-preserved : goal.loop-at-preserved
loop-at-preserved c = writing_more _ _ c.requires c.loop-at.invariant c.in-Some.ensures

pub returns : goal.returns
returns c = writing_end _ _ c.requires c.loop-at.invariant c.loop-at-test.false
