use mathlib.Core.Path.{◌∙◌}
use Rattle.lexing.proofs.buffers.Laws.{put_part}
use Rattle.lexing.proofs.buffers.put_word.Goals as goal

pub returns : goal.returns
returns c = put_part c.args.at _ c.args.out.now _ (c.copy_from_slice.ensures.after ∙ c.to_be_bytes.ensures)
