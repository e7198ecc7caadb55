use Rattle.lexing.proofs.Losses.{passed_on}
use Rattle.lexing.proofs.AnswerLaws.{read_lost}
use Rattle.items.proofs.members.Laws.{revision_counted, revision_lost}
use Rattle.items.proofs.members.count_revision.Goals as goal

pub returns-in_err-c : goal.returns-in_err-c
returns-in_err-c c = rw (passed_on c.from_residual.ensures) (revision_lost _ (read_lost c.in_err-c.ensures))

pub returns : goal.returns
returns c = revision_counted c.in_ok-c.ensures
