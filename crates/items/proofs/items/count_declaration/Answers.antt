use Rattle.items.proofs.items.Laws.{started}
use Rattle.items.proofs.items.count_declaration.Goals as goal

pub returns : goal.returns
returns c = started c.declaration_start-s.ensures c.rest_at.ensures c.count_declaration_of_kind-r.ensures c.fail_no_earlier.ensures
