use Rattle.lexing.proofs.Slicing.{rest_self, blank_took}
use Rattle.lexing.proofs.steps.Laws.{rest_clear}
use Rattle.items.proofs.items.Laws.{item_words, item_lost, item_blank}
use Rattle.items.proofs.items.count_item.Goals as goal

pub count_declaration-r-requires-clause-part_value : goal.count_declaration-r-requires-clause-part_value
count_declaration-r-requires-clause-part_value c = rest_clear (blank_took (rest_self _ _) c.whitespace0-w.ensures) c.rest_at.ensures

pub returns-in_default : goal.returns-in_default
returns-in_default c = rw c.in_default.is (item_words c.whitespace0-w.ensures c.rest_at.ensures c.in_default.ensures)

pub returns-then-c-base : goal.returns-then-c-base
returns-then-c-base c = item_lost c.whitespace0-w.ensures c.rest_at.ensures c.in-Err.ensures c.if-c-base.true

pub returns : goal.returns
returns c = item_blank c.whitespace0-w.ensures c.rest_at.ensures c.in-Err.ensures c.if-c-base.false c.count_end.ensures
