use Rattle.matter_idl.proofs.survey.Remembered.{judged_of, judged_marked}
use Rattle.matter_idl.proofs.survey.verdict_again.Goals as goal

pub returns-then-accepted : goal.returns-then-accepted
returns-then-accepted c = judged_marked c.requires.accepted_value c.if-accepted.true _

pub returns : goal.returns
returns c = judged_of c.verdict_at.result _ _ c.verdict_at.ensures c.requires.part_bound
