use Rattle.lexing.specs.answers.{doc_of}
use Rattle.items.proofs.items.Laws.{start_room, start_written}
use Rattle.items.proofs.items.write_declaration.Goals as goal

pub write_declaration_of_kind-requires-clause-room : goal.write_declaration_of_kind-requires-clause-room
write_declaration_of_kind-requires-clause-room c = (start_room (doc_of c.args.doc) c.declaration_start-s.ensures c.rest_at.ensures c.requires.room)

pub returns : goal.returns
returns c = start_written (doc_of c.args.doc) c.declaration_start-s.ensures c.rest_at.ensures c.write_declaration_of_kind.ensures
