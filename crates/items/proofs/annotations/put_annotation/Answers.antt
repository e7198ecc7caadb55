use Rattle.items.proofs.annotations.Laws.{put_annotation}
use Rattle.items.proofs.annotations.put_annotation.Goals as goal

pub returns : goal.returns
returns c = put_annotation c.args.a c.args.at _ _ c.args.out.now _ c.first_word.ensures c.span_word-value.ensures c.put_words.ensures
