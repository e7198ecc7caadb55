use Rattle.lexing.specs.inner.utf8.{Bounds}
use Rattle.lexing.proofs.utf8.or_64.Given as goal

abbrev pub invariant-loop-j : goal.invariant-loop-j
invariant-loop-j l = Bounds l.joined l.part l.i l.j
