use Prim.Native.Nat.{◌+◌}
use Rattle.lexing.proofs.utf8.Laws.{Tails}
use Rattle.lexing.proofs.utf8.size_by.Given as goal

abbrev pub invariant-loop-x : goal.invariant-loop-x
invariant-loop-x l = Tails l.rest l.n l.lo l.hi (2 + l.x-index)
