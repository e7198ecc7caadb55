use Rattle.items.proofs.annotations.Laws.{list_counted, list_given_up}
use Rattle.items.proofs.annotations.count_annotations_list.Goals as goal

pub returns-in-Ok : goal.returns-in-Ok
returns-in-Ok c = rw c.in-Ok.is (list_counted c.in-Ok.ensures)

pub returns-in-Err : goal.returns-in-Err
returns-in-Err c = list_given_up c.count_end.ensures c.in-Err.ensures
