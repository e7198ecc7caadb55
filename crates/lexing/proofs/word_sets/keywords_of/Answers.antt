use Rattle.lexing.specs.word_sets.{field_set, struct_set, event_set, command_set, attribute_set}
use Rattle.lexing.proofs.word_sets.keywords_of.Goals as goal

pub returns-in-Field : goal.returns-in-Field
unfolding field_set
returns-in-Field c = rw c.in-Field.is

pub returns-in-Struct : goal.returns-in-Struct
unfolding struct_set
returns-in-Struct c = rw c.in-Struct.is

pub returns-in-Event : goal.returns-in-Event
unfolding event_set
returns-in-Event c = rw c.in-Event.is

pub returns-in-Command : goal.returns-in-Command
unfolding command_set
returns-in-Command c = rw c.in-Command.is

pub returns-in-Attribute : goal.returns-in-Attribute
unfolding attribute_set
returns-in-Attribute c = rw c.in-Attribute.is
