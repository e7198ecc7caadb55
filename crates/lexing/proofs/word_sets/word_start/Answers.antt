use Rattle.lexing.proofs.word_sets.Laws.{start_first, start_none, start_next}
use Rattle.lexing.proofs.word_sets.word_start.Goals as goal

pub returns-then-first : goal.returns-then-first
returns-then-first c = start_first _ _ _ c.if-first.true

pub returns-then-next-base : goal.returns-then-next-base
returns-then-next-base c = start_none _ _ _ c.if-first.false _ c.whitespace0-b.ensures c.if-next-base.true

pub returns : goal.returns
returns c = start_next _ _ _ c.if-first.false _ c.whitespace0-b.ensures c.if-next-base.false
