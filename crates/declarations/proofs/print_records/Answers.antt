use native.Mathlib.Omega.{arith}
use Rattle.lexing.specs.answers.{doc_of}
use Rattle.lexing.proofs.Slicing.{rest_self, blank_took}
use Rattle.lexing.proofs.steps.Laws.{rest_clear}
use Rattle.items.proofs.counts.Laws.{count_room}
use Rattle.items.proofs.writing.Laws.{doc_in_limit}
use Rattle.declarations.proofs.print_records.Goals as goal

pub count_declaration-requires-clause-part_value : goal.count_declaration-requires-clause-part_value
count_declaration-requires-clause-part_value g c = rest_clear (blank_took (rest_self _ _) c.whitespace0-w.ensures) c.rest_at-part.ensures

pub write_declaration-wrote-requires-clause-part_value : goal.write_declaration-wrote-requires-clause-part_value
write_declaration-wrote-requires-clause-part_value g c = rest_clear (blank_took (rest_self _ _) c.whitespace0-w.ensures) c.rest_at-part.ensures

pub write_declaration-wrote-requires-clause-doc_fits : goal.write_declaration-wrote-requires-clause-doc_fits
write_declaration-wrote-requires-clause-doc_fits g c = doc_in_limit c.whitespace0-w.ensures (omega (arith, (blank_took (rest_self _ _) c.whitespace0-w.ensures).inside, c.requires))

pub write_declaration-wrote-requires-clause-room : goal.write_declaration-wrote-requires-clause-room
write_declaration-wrote-requires-clause-room g c = count_room (c.in-Ok.ensures.counts (doc_of c.whitespace0-w.result.doc)) (omega arith)
