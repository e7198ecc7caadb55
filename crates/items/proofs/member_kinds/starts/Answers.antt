use Rattle.items.proofs.member_kinds.Laws.{starts_yes, starts_no}
use Rattle.items.proofs.member_kinds.starts.Goals as goal

pub returns-in-Ok : goal.returns-in-Ok
returns-in-Ok c = starts_yes _ _ _ _ c.in-Ok.ensures

pub returns-in-Err : goal.returns-in-Err
returns-in-Err c = starts_no _ _ _ _ c.in-Err.ensures
