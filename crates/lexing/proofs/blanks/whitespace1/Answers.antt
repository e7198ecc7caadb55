use Rattle.lexing.proofs.blanks.Laws.{gap_none, gap_some}
use Rattle.lexing.proofs.blanks.whitespace1.Goals as goal

pub returns-then-next-base : goal.returns-then-next-base
returns-then-next-base c = gap_none _ _ _ c.whitespace0-b.ensures c.if-next-base.true

pub returns : goal.returns
returns c = gap_some _ _ _ c.whitespace0-b.ensures c.if-next-base.false
