use mathlib.Core.Path.{◌∙◌}
use native.Mathlib.Omega.{arith}
use Rattle.matter_idl.proofs.survey.SecondPass.{writing_start, catalogue_written, report_written, this_mark, words_room, writing_more}
use Rattle.matter_idl.proofs.survey.write_sections.Goals as goal

pub loop-i-init : goal.loop-i-init
loop-i-init c = writing_start _ _ _

pub has-accepted-requires : goal.has-accepted-requires
has-accepted-requires c = (this_mark c.loop-i.invariant c.requires.text_in_bounds (omega (arith, c.requires.m_value, c.requires.m_in_bounds)) (omega (arith, c.loop-i-test.true, c.requires.m_value)) c.rest_at.ensures c.first_section-s.ensures c.section_at-part.ensures c.args.text.fits c.requires.accepted_bits).place

pub verdict_again-v-requires-clause-accepted_value : goal.verdict_again-v-requires-clause-accepted_value
verdict_again-v-requires-clause-accepted_value c = (c.has-accepted.ensures ∙ (this_mark c.loop-i.invariant c.requires.text_in_bounds (omega (arith, c.requires.m_value, c.requires.m_in_bounds)) (omega (arith, c.loop-i-test.true, c.requires.m_value)) c.rest_at.ensures c.first_section-s.ensures c.section_at-part.ensures c.args.text.fits c.requires.accepted_bits).mark)

pub write_accepted-to-requires-clause-accepted_value : goal.write_accepted-to-requires-clause-accepted_value
write_accepted-to-requires-clause-accepted_value c = (c.has-accepted.ensures ∙ (this_mark c.loop-i.invariant c.requires.text_in_bounds (omega (arith, c.requires.m_value, c.requires.m_in_bounds)) (omega (arith, c.loop-i-test.true, c.requires.m_value)) c.rest_at.ensures c.first_section-s.ensures c.section_at-part.ensures c.args.text.fits c.requires.accepted_bits).mark)

pub write_accepted-to-requires-clause-part_in_bounds : goal.write_accepted-to-requires-clause-part_in_bounds
write_accepted-to-requires-clause-part_in_bounds c = words_room c.loop-i.invariant c.requires.text_in_bounds (omega (arith, c.requires.m_value, c.requires.m_in_bounds)) (omega (arith, c.loop-i-test.true, c.requires.m_value)) c.rest_at.ensures c.first_section-s.ensures c.section_at-part.ensures

pub loop-i-preserved : goal.loop-i-preserved
loop-i-preserved c = writing_more c.loop-i.invariant c.requires.text_in_bounds (omega (arith, c.requires.m_value, c.requires.m_in_bounds)) (omega (arith, c.loop-i-test.true, c.requires.m_value)) c.rest_at.ensures c.first_section-s.ensures c.section_at-part.ensures c.verdict_again-v.result c.verdict_again-v.ensures c.put_entry.ensures c.write_accepted-to.ensures

pub returns : goal.returns
returns c = record { catalogue_after = catalogue_written c.loop-i.invariant c.requires.text_in_bounds (omega (arith, c.requires.m_value, c.requires.m_in_bounds)) (omega (arith, c.loop-i-test.false, c.requires.m_value)); report_after = report_written c.loop-i.invariant c.requires.text_in_bounds (omega (arith, c.requires.m_value, c.requires.m_in_bounds)) (omega (arith, c.loop-i-test.false, c.requires.m_value)) }
