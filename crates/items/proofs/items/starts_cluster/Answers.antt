use Rattle.lexing.specs.bytes.{ascii}
use Rattle.items.proofs.member_kinds.Laws.{any_yes, any_more}
use Rattle.items.proofs.items.starts_cluster.Goals as goal

pub returns-then-starts : goal.returns-then-starts
returns-then-starts c = any_yes (ascii "client") _ _ _ c.starts.ensures c.if-starts.true

pub returns-then-starts-2 : goal.returns-then-starts-2
returns-then-starts-2 c = any_more (ascii "client") _ _ _ c.starts.ensures c.if-starts.false (any_yes (ascii "server") _ _ _ c.starts-2.ensures c.if-starts-2.true)

pub returns : goal.returns
returns c = any_more (ascii "client") _ _ _ c.starts.ensures c.if-starts.false (any_more (ascii "server") _ _ _ c.starts-2.ensures c.if-starts-2.false c.starts-3.ensures)
