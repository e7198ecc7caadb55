use Rattle.lexing.proofs.steps.Laws.{gap_is, gap_not}
use Rattle.lexing.proofs.steps.gap_at.Goals as goal

pub returns-then-n-c : goal.returns-then-n-c
returns-then-n-c c = gap_not c.blank_at-n.ensures.at c.blank_at-n.ensures.skips c.if-n-c.true

pub returns : goal.returns
returns c = gap_is c.blank_at-n.ensures.at c.blank_at-n.ensures.skips c.if-n-c.false
