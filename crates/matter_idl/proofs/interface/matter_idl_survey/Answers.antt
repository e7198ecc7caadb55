use borrow.Author.Tests.{le-leb, lt-leb}
use lib.ListN.{length}
use Rattle.matter_idl.proofs.interface.SurveyOutcomes.{survey_refused, survey_long, survey_rows, survey_short, survey_done}
use Rattle.matter_idl.specs.inner.bits.{bits_size}
use Rattle.matter_idl.proofs.survey.Remembered.{unmarked}
use Rattle.matter_idl.proofs.interface.matter_idl_survey.Goals as goal

pub returns-then-text-gt-TEXT_LIMIT : goal.returns-then-text-gt-TEXT_LIMIT
returns-then-text-gt-TEXT_LIMIT c = record { answer_value = (survey_refused (survey_long c.args.text.now (length c.args.catalogue.now) (length c.args.report.now) (lt-leb _ _ c.if-text-gt-TEXT_LIMIT.true)) c.refused.ensures c.args.catalogue.now c.args.report.now).0; catalogue_after = (survey_refused (survey_long c.args.text.now (length c.args.catalogue.now) (length c.args.report.now) (lt-leb _ _ c.if-text-gt-TEXT_LIMIT.true)) c.refused.ensures c.args.catalogue.now c.args.report.now).1.0; report_after = (survey_refused (survey_long c.args.text.now (length c.args.catalogue.now) (length c.args.report.now) (lt-leb _ _ c.if-text-gt-TEXT_LIMIT.true)) c.refused.ensures c.args.catalogue.now c.args.report.now).1.1 }

pub count_accepted-counted-requires : goal.count_accepted-counted-requires
count_accepted-counted-requires c = rw c.new-accepted_bits.ensures (unmarked bits_size)

pub returns-then-report-sections : goal.returns-then-report-sections
returns-then-report-sections c = record { answer_value = (survey_refused (survey_rows c.args.text.now (length c.args.catalogue.now) (length c.args.report.now) (le-leb _ _ c.if-text-gt-TEXT_LIMIT.false) c.count_accepted-counted.ensures.sections_value (lt-leb _ _ c.if-report-sections.true)) c.refused-then-report-sections.ensures c.args.catalogue.now c.args.report.now).0; catalogue_after = (survey_refused (survey_rows c.args.text.now (length c.args.catalogue.now) (length c.args.report.now) (le-leb _ _ c.if-text-gt-TEXT_LIMIT.false) c.count_accepted-counted.ensures.sections_value (lt-leb _ _ c.if-report-sections.true)) c.refused-then-report-sections.ensures c.args.catalogue.now c.args.report.now).1.0; report_after = (survey_refused (survey_rows c.args.text.now (length c.args.catalogue.now) (length c.args.report.now) (le-leb _ _ c.if-text-gt-TEXT_LIMIT.false) c.count_accepted-counted.ensures.sections_value (lt-leb _ _ c.if-report-sections.true)) c.refused-then-report-sections.ensures c.args.catalogue.now c.args.report.now).1.1 }

pub returns-then-catalogue-words : goal.returns-then-catalogue-words
returns-then-catalogue-words c = record { answer_value = (survey_refused (survey_short c.args.text.now (length c.args.catalogue.now) (length c.args.report.now) (le-leb _ _ c.if-text-gt-TEXT_LIMIT.false) c.count_accepted-counted.ensures.sections_value (le-leb _ _ c.if-report-sections.false) c.count_accepted-counted.ensures.words_value (lt-leb _ _ c.if-catalogue-words.true)) c.refused-then-catalogue-words.ensures c.args.catalogue.now c.args.report.now).0; catalogue_after = (survey_refused (survey_short c.args.text.now (length c.args.catalogue.now) (length c.args.report.now) (le-leb _ _ c.if-text-gt-TEXT_LIMIT.false) c.count_accepted-counted.ensures.sections_value (le-leb _ _ c.if-report-sections.false) c.count_accepted-counted.ensures.words_value (lt-leb _ _ c.if-catalogue-words.true)) c.refused-then-catalogue-words.ensures c.args.catalogue.now c.args.report.now).1.0; report_after = (survey_refused (survey_short c.args.text.now (length c.args.catalogue.now) (length c.args.report.now) (le-leb _ _ c.if-text-gt-TEXT_LIMIT.false) c.count_accepted-counted.ensures.sections_value (le-leb _ _ c.if-report-sections.false) c.count_accepted-counted.ensures.words_value (lt-leb _ _ c.if-catalogue-words.true)) c.refused-then-catalogue-words.ensures c.args.catalogue.now c.args.report.now).1.1 }

pub returns : goal.returns
returns c = record { answer_value = (survey_done c.args.text.now (length c.args.catalogue.now) (length c.args.report.now) (le-leb _ _ c.if-text-gt-TEXT_LIMIT.false) c.count_accepted-counted.ensures.sections_value (le-leb _ _ c.if-report-sections.false) c.count_accepted-counted.ensures.words_value (le-leb _ _ c.if-catalogue-words.false) c.packed.ensures c.args.catalogue.now c.args.report.now c.write_sections.ensures.catalogue_after c.write_sections.ensures.report_after).0; catalogue_after = (survey_done c.args.text.now (length c.args.catalogue.now) (length c.args.report.now) (le-leb _ _ c.if-text-gt-TEXT_LIMIT.false) c.count_accepted-counted.ensures.sections_value (le-leb _ _ c.if-report-sections.false) c.count_accepted-counted.ensures.words_value (le-leb _ _ c.if-catalogue-words.false) c.packed.ensures c.args.catalogue.now c.args.report.now c.write_sections.ensures.catalogue_after c.write_sections.ensures.report_after).1.0; report_after = (survey_done c.args.text.now (length c.args.catalogue.now) (length c.args.report.now) (le-leb _ _ c.if-text-gt-TEXT_LIMIT.false) c.count_accepted-counted.ensures.sections_value (le-leb _ _ c.if-report-sections.false) c.count_accepted-counted.ensures.words_value (le-leb _ _ c.if-catalogue-words.false) c.packed.ensures c.args.catalogue.now c.args.report.now c.write_sections.ensures.catalogue_after c.write_sections.ensures.report_after).1.1 }
