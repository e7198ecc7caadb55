use Rattle.lexing.proofs.Losses.{passed_on}
use Rattle.items.proofs.commands.Laws.{command_lost, command_counted}
use Rattle.items.proofs.commands.count_command.Goals as goal

pub returns-in_err-c : goal.returns-in_err-c
returns-in_err-c c = rw (passed_on c.from_residual.ensures) (command_lost c.in_err-c.ensures)

pub returns : goal.returns
returns c = command_counted c.in_ok-c.ensures
