use mathlib.Core.Path.{◌≡◌}
use Prim.Native.Nat.{◌+◌, ◌-◌}
use lib.ListN.{length}
use Rattle.lexing.proofs.word_sets.Laws.{SetAt, WalkAt}
use Rattle.lexing.proofs.word_sets.words_of_set.Given as goal

abbrev pub invariant-loop-k : goal.invariant-loop-k
invariant-loop-k l = WalkAt l.set l.base l.part l.flags l.next l.first l.start l.rest l.k × (l.next ≡ l.initial.next)

abbrev pub invariant-words : goal.invariant-words
invariant-words l = SetAt l.set l.base l.part l.flags l.next l.first

abbrev pub decreases-words : goal.decreases-words
decreases-words l = l.base + length l.part - l.next
