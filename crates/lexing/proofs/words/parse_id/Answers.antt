use Rattle.lexing.proofs.words.Laws.{word_self}
use Rattle.lexing.proofs.words.parse_id.Goals as goal

pub returns : goal.returns
returns c = word_self c.id_at.result _ _ c.id_at.ensures
