use mathlib.Core.Path.{◌≡◌}
use lib.ListN.{take}
use Rattle.lexing.specs.buffers.{put, words_bytes}
use Rattle.lexing.proofs.buffers.put_words.Given as goal

abbrev pub invariant-loop-k : goal.invariant-loop-k
invariant-loop-k g l = l.out ≡ put l.at (words_bytes (take l.k l.words)) l.initial.out
