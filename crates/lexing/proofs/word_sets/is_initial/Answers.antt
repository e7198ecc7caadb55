use Rattle.std.proofs.Common.{rules}
use Rattle.lexing.specs.word_sets.{field_set, struct_set, event_set, command_set, attribute_set}
use Rattle.lexing.specs.inner.word_sets.{initial}
use Rattle.lexing.proofs.word_sets.is_initial.Goals as goal

pub returns-in-111 : goal.returns-in-111
unfolding initial field_set struct_set event_set command_set attribute_set
returns-in-111 c = search rules

pub returns-in-111-2 : goal.returns-in-111-2
unfolding initial field_set struct_set event_set command_set attribute_set
returns-in-111-2 c = search rules

pub returns-in_default-2 : goal.returns-in_default-2
unfolding initial field_set struct_set event_set command_set attribute_set
returns-in_default-2 c = search rules

pub returns-in_default : goal.returns-in_default
unfolding initial field_set struct_set event_set command_set attribute_set
returns-in_default c = search rules

pub returns-in-Struct : goal.returns-in-Struct
unfolding initial field_set struct_set event_set command_set attribute_set
returns-in-Struct c = search rules

pub returns-in-Empty : goal.returns-in-Empty
unfolding initial field_set struct_set event_set command_set attribute_set
returns-in-Empty c = search rules

pub returns-in-116 : goal.returns-in-116
unfolding initial field_set struct_set event_set command_set attribute_set
returns-in-116 c = search rules

pub returns-in_default-matches : goal.returns-in_default-matches
unfolding initial field_set struct_set event_set command_set attribute_set
returns-in_default-matches c = search rules

pub returns-in-114 : goal.returns-in-114
unfolding initial field_set struct_set event_set command_set attribute_set
returns-in-114 c = search rules

pub returns-in_default-matches-2 : goal.returns-in_default-matches-2
unfolding initial field_set struct_set event_set command_set attribute_set
returns-in_default-matches-2 c = search rules
