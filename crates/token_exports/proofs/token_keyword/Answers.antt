use Rattle.token_exports.proofs.Laws.{not_keyed, keyword_there, keyword_none}
use Rattle.token_exports.proofs.token_keyword.Goals as goal

pub returns-in-Ok : goal.returns-in-Ok
returns-in-Ok c = keyword_there _ _ c.is_key.ensures c.if-is_key.true c.in-Ok.ensures

pub returns-in-Err : goal.returns-in-Err
returns-in-Err c = keyword_none _ _ c.is_key.ensures _ c.if-is_key.true c.in-Err.ensures

pub returns : goal.returns
returns c = not_keyed _ _ c.is_key.ensures c.if-is_key.false
