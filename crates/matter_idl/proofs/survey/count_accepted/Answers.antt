use mathlib.Core.Path.{refl}
use native.Mathlib.Omega.{arith}
use Rattle.matter_idl.proofs.Cutting.{section_number}
use Rattle.matter_idl.proofs.survey.Laws.{more, sections_start, sections_more, sections_end}
use Rattle.matter_idl.proofs.survey.count_accepted.Goals as goal

pub loop-i-init : goal.loop-i-init
loop-i-init c = sections_start _ c.requires

pub remember-requires : goal.remember-requires
remember-requires c = section_number c.args.text.bytes.now c.args.text.fits (more c.loop-i.invariant.passed refl)

pub overflow_add-i : goal.overflow_add-i
overflow_add-i c = omega (arith, section_number c.args.text.bytes.now c.args.text.fits (more c.loop-i.invariant.passed refl))

pub returns-then-s-clause-sections_bound : goal.returns-then-s-clause-sections_bound
returns-then-s-clause-sections_bound c = (sections_end (sections_more c.loop-i.invariant c.args.text.fits c.rest_at.ensures c.first_section-s.ensures c.section_at.ensures c.verdict_at-v.result c.verdict_at-v.ensures c.accepted_words-n.ensures c.remember.ensures c.if-s.true)).1.0

pub returns-then-s-clause-words_value : goal.returns-then-s-clause-words_value
returns-then-s-clause-words_value c = (sections_end (sections_more c.loop-i.invariant c.args.text.fits c.rest_at.ensures c.first_section-s.ensures c.section_at.ensures c.verdict_at-v.result c.verdict_at-v.ensures c.accepted_words-n.ensures c.remember.ensures c.if-s.true)).1.1.0

pub returns-then-s-clause-accepted_bits : goal.returns-then-s-clause-accepted_bits
returns-then-s-clause-accepted_bits c = (sections_end (sections_more c.loop-i.invariant c.args.text.fits c.rest_at.ensures c.first_section-s.ensures c.section_at.ensures c.verdict_at-v.result c.verdict_at-v.ensures c.accepted_words-n.ensures c.remember.ensures c.if-s.true)).1.1.1.1

pub loop-i-preserved : goal.loop-i-preserved
loop-i-preserved c = sections_more c.loop-i.invariant c.args.text.fits c.rest_at.ensures c.first_section-s.ensures c.section_at.ensures c.verdict_at-v.result c.verdict_at-v.ensures c.accepted_words-n.ensures c.remember.ensures c.if-s.false
