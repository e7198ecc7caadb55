use Rattle.matter_idl.proofs.survey.Remembered.{refused_after, judged_room, accepted_after}
use Rattle.matter_idl.proofs.survey.write_accepted.Goals as goal

pub write_items-wrote-requires-clause-room : goal.write_items-wrote-requires-clause-room
write_items-wrote-requires-clause-room c = judged_room _ _ c.requires.accepted_value c.if-accepted.true c.requires.part_in_bounds

pub returns-then-accepted : goal.returns-then-accepted
returns-then-accepted c = accepted_after _ _ c.requires.accepted_value c.if-accepted.true c.write_items-wrote.ensures

pub returns : goal.returns
returns c = refused_after _ _ c.requires.accepted_value c.if-accepted.false
