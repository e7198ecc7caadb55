use Prim.Native.Nat.{◌-◌}
use lib.ListN.{length}
use Rattle.lexing.specs.bytes.{is_word}
use Rattle.lexing.specs.inner.words.{word_end}
use Rattle.lexing.proofs.Scans.{RunAt}
use Rattle.lexing.proofs.words.word_tail.Given as goal

abbrev pub invariant-loop-i : goal.invariant-loop-i
invariant-loop-i l = RunAt is_word l.part (word_end l.part l.n) l.i

abbrev pub decreases-loop-i : goal.decreases-loop-i
decreases-loop-i l = length l.part - l.i
