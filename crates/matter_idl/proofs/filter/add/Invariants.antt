use Rattle.matter_idl.proofs.filter.Laws.{Adding}
use Rattle.matter_idl.proofs.filter.add.Given as goal

abbrev pub invariant-loop-j : goal.invariant-loop-j
invariant-loop-j l = Adding l.filter l.initial.filter l.h l.j
