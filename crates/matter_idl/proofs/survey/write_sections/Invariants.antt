use Rattle.matter_idl.proofs.survey.SecondPass.{WritingSections}
use Rattle.matter_idl.proofs.survey.write_sections.Given as goal

abbrev pub invariant-loop-i : goal.invariant-loop-i
invariant-loop-i l = WritingSections l.text.bytes.now l.initial.catalogue l.initial.report l.i l.start l.to l.catalogue l.filter l.report
