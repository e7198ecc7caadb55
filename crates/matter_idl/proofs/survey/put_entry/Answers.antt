use Rattle.matter_idl.proofs.survey.Laws.{put_entry}
use Rattle.matter_idl.proofs.survey.put_entry.Goals as goal

pub returns : goal.returns
returns c = put_entry _ _ c.args.v _ _ _ _ c.verdict_word.ensures c.put_word.ensures
