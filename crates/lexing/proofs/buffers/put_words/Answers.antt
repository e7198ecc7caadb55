use mathlib.Core.Path.{sym}
use native.Mathlib.Omega.{arith}
use Rattle.lexing.specs.buffers.{words_bytes, each}
use Rattle.lexing.proofs.buffers.Laws.{put_nothing, put_more}
use Rattle.lexing.proofs.buffers.put_words.Goals as goal

pub loop-k-init : goal.loop-k-init
unfolding words_bytes each
loop-k-init g c = sym (put_nothing c.args.at c.args.out.now)

pub loop-k-preserved : goal.loop-k-preserved
loop-k-preserved g c = put_more c.args.at c.loop-k.k c.args.words c.args.out.now _ _ (omega arith) (omega arith) c.loop-k.invariant c.put_word.ensures
