use Rattle.matter_idl.specs.inner.sections.{Uncut}
use Rattle.matter_idl.proofs.sections.first_section.Given as goal

abbrev pub invariant-loop-i : goal.invariant-loop-i
invariant-loop-i l = Uncut l.part l.i
