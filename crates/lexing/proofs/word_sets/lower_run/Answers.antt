use Rattle.lexing.proofs.word_sets.Laws.{lower_start, lower_eight}
use Rattle.lexing.proofs.word_sets.lower_run.Goals as goal

pub loop-i-init : goal.loop-i-init
loop-i-init c = lower_start _ _

pub loop-i-preserved : goal.loop-i-preserved
loop-i-preserved c = lower_eight _ _ _ _ _ c.requires c.loop-i.invariant c.loop-i-test.true (λ j. (c.shared_slice_known-1.given j).fits) c.eight_at.ensures c.non_capitals.ensures c.if-non_capitals.false
