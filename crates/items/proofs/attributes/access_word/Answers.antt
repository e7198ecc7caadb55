use Rattle.items.proofs.attributes.Laws.{read_operation, write_operation, word_first, word_second}
use Rattle.items.proofs.attributes.access_word.Goals as goal

pub operation_by-requires-clause-key_value : goal.operation_by-requires-clause-key_value
operation_by-requires-clause-key_value c = read_operation

pub operation_by-requires-in-None-clause-key_value : goal.operation_by-requires-in-None-clause-key_value
operation_by-requires-in-None-clause-key_value c = write_operation

pub returns-in-Some : goal.returns-in-Some
returns-in-Some c = word_first c.in-Some.ensures

pub returns-in-None : goal.returns-in-None
returns-in-None c = word_second _ c.in-None.ensures c.operation_by-in-None.ensures
