use Rattle.lexing.proofs.Losses.{passed_on}
use Rattle.items.specs.entries.{constant_annotation}
use Rattle.lexing.proofs.names.Laws.{named_in, named_at_took, named_at_lost, blank_word_on}
use Rattle.items.proofs.annotations.Laws.{annotation_after, quoted_long, quoted_took, comma_onward}
use mathlib.Core.Path.{refl}
use native.Mathlib.Omega.{arith}
use Rattle.lexing.proofs.Slicing.{begin, go, on, lose, fall, done}
use Rattle.lexing.proofs.AnswerLaws.{read_is, read_not}
use Rattle.lexing.proofs.Pairs.{pair_go, pair_on, pair_lose, pair_fall}
use Rattle.lexing.proofs.steps.Laws.{blank_at_took, tag_after_took, skips_lost}
use Rattle.lexing.proofs.answers.Laws.{skip_took}
use Rattle.items.proofs.annotations.AnnotationPartsElement.read.Goals as goal

pub returns-in_err-key : goal.returns-in_err-key
unfolding constant_annotation
returns-in_err-key c = annotation_after (rw (passed_on c.from_residual.ensures) (read_not _ (begin (constant_annotation) _ _ (pair_lose _ _ _ _ c.in_err-key.ensures.at (named_at_lost c.in_err-key.ensures)))))

pub tag_after-requires : goal.tag_after-requires
tag_after-requires c = let t = named_at_took c.in_ok-key.ensures blank_word_on in omega (arith, t.up, t.inside, c.requires)

pub returns-in_err-c2 : goal.returns-in_err-c2
unfolding constant_annotation
returns-in_err-c2 c = annotation_after (rw (passed_on c.from_residual-in_err-c2.ensures) (read_not _ (begin (constant_annotation) _ _ (pair_go _ _ _ (named_at_took c.in_ok-key.ensures blank_word_on) (pair_fall _ _ _ _ c.in_err-c2.ensures.at (skips_lost c.in_err-c2.ensures))))))

pub blank_at-quote-requires : goal.blank_at-quote-requires
blank_at-quote-requires c = let t = tag_after_took 61 c.in_ok-c2.ensures in omega (arith, t.up, t.inside, c.in_ok-c2.ensures.at.from, c.requires)

pub rest_at-requires : goal.rest_at-requires
rest_at-requires c = let t = blank_at_took c.blank_at-quote.ensures in omega (arith, t.up, t.inside, c.blank_at-quote.ensures.at.from)

pub returns-in_err-after : goal.returns-in_err-after
unfolding constant_annotation
returns-in_err-after c = annotation_after (rw (passed_on c.from_residual-in_err-after.ensures) (read_not _ (begin (constant_annotation) _ _ (pair_go _ _ _ (named_at_took c.in_ok-key.ensures blank_word_on) (pair_on _ _ _ (tag_after_took 61 c.in_ok-c2.ensures) (on _ (blank_at_took c.blank_at-quote.ensures) (lose _ _ _ c.rest_at.ensures c.in_err-after.ensures)))))))

pub blank_at-c3-requires : goal.blank_at-c3-requires
blank_at-c3-requires c = let t = quoted_took c.rest_at.ensures c.in_ok-after.ensures in omega (arith, t.up, t.inside, c.rest_at.ensures.from, c.requires)

pub rest_at-requires-2 : goal.rest_at-requires-2
rest_at-requires-2 c = let t = blank_at_took c.blank_at-c3.ensures in omega (arith, t.up, t.inside, c.blank_at-c3.ensures.at.from)

pub returns-in_err-c4 : goal.returns-in_err-c4
unfolding constant_annotation
returns-in_err-c4 c = annotation_after (rw (passed_on c.from_residual-in_err-c4.ensures) (read_not _ (begin (constant_annotation) _ _ (pair_go _ _ _ (named_at_took c.in_ok-key.ensures blank_word_on) (pair_on _ _ _ (tag_after_took 61 c.in_ok-c2.ensures) (on _ (blank_at_took c.blank_at-quote.ensures) (go _ (quoted_took c.rest_at.ensures c.in_ok-after.ensures) (on _ (blank_at_took c.blank_at-c3.ensures) (fall _ _ _ c.rest_at-2.ensures c.in_err-c4.ensures.reads)))))))))

pub returns : goal.returns
unfolding constant_annotation
returns c = annotation_after (read_is refl (begin (constant_annotation) _ _ (pair_go _ _ _ (named_at_took c.in_ok-key.ensures blank_word_on) (pair_on _ _ _ (tag_after_took 61 c.in_ok-c2.ensures) (on _ (blank_at_took c.blank_at-quote.ensures) (go _ (quoted_took c.rest_at.ensures c.in_ok-after.ensures) (on _ (blank_at_took c.blank_at-c3.ensures) (on _ (skip_took comma_onward c.rest_at-2.ensures c.in_ok-c4.ensures) (done _ _ _ _)))))))) (let w = named_in c.in_ok-key.ensures.named in record { from = w.from; up = w.up; follows = omega (arith, w.inside, (tag_after_took 61 c.in_ok-c2.ensures).up, (blank_at_took c.blank_at-quote.ensures).up); quotes = quoted_long _ _ c.in_ok-after.ensures; inside = omega (arith, (blank_at_took c.blank_at-c3.ensures).up, (skip_took comma_onward c.rest_at-2.ensures c.in_ok-c4.ensures).up) }))
