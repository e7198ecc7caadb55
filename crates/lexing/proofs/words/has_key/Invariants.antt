use Rattle.lexing.specs.inner.words.{KeyAt}
use Rattle.lexing.proofs.words.has_key.Given as goal

abbrev pub invariant-loop-i : goal.invariant-loop-i
invariant-loop-i l = KeyAt l.key l.part l.i
