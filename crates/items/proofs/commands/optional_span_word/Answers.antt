use borrow.Author.Tests.{lt-ltb, le-ltb}
use Rattle.items.proofs.commands.Laws.{span_there, span_absent}
use Rattle.items.proofs.commands.optional_span_word.Goals as goal

pub returns-then-from-to : goal.returns-then-from-to
returns-then-from-to c = span_there _ _ _ (lt-ltb _ _ c.if-from-to.true) c.span_word.ensures

pub returns : goal.returns
returns c = span_absent c.args.from c.args.to (le-ltb _ _ c.if-from-to.false)
