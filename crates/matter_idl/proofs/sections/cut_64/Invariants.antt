use Rattle.matter_idl.specs.inner.sections.{Cutless}
use Rattle.matter_idl.proofs.sections.cut_64.Given as goal

abbrev pub invariant-loop-j : goal.invariant-loop-j
invariant-loop-j l = Cutless l.found l.part l.i l.j
