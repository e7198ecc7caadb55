use Rattle.lexing.proofs.Losses.{passed_on}
use native.Mathlib.Omega.{arith}
use Rattle.items.specs.entries.{annotations_in_brackets}
use Rattle.items.proofs.annotations.Laws.{annotations_repeat, annotations_onward}
use Rattle.items.proofs.counts.Laws.{count_took, count_lost, count_is, count_not}
use Rattle.lexing.proofs.Slicing.{rest_self, begin, on, go, lose, fall, done, tag_took}
use Rattle.lexing.proofs.Pairs.{pair_on, pair_fall}
use Rattle.lexing.proofs.steps.Laws.{tag_after_took, skips_lost}
use Rattle.items.proofs.annotations.count_annotations_in_brackets.Goals as goal

pub returns-in_err-c1 : goal.returns-in_err-c1
unfolding annotations_in_brackets
returns-in_err-c1 c = rw (passed_on c.from_residual.ensures) (count_not _ _ _ _ _ (begin annotations_in_brackets _ _ (fall _ _ _ (rest_self _ _) c.in_err-c1.ensures)))

pub rest_at-requires : goal.rest_at-requires
rest_at-requires c = let t = (tag_took (rest_self _ _) 91 c.in_ok-c1.ensures) in omega (arith, t.up, t.inside)

pub count_run-requires-clause-repeats : goal.count_run-requires-clause-repeats
count_run-requires-clause-repeats c = annotations_repeat

pub returns-in_err-n : goal.returns-in_err-n
unfolding annotations_in_brackets
returns-in_err-n c = rw (passed_on c.from_residual-in_err-n.ensures) (count_not _ _ _ _ _ (begin annotations_in_brackets _ _ (on _ (tag_took (rest_self _ _) 91 c.in_ok-c1.ensures) (lose _ _ _ c.rest_at.ensures (count_lost _ _ c.in_err-n.ensures)))))

pub tag_after-requires : goal.tag_after-requires
tag_after-requires c = let k = (count_took annotations_onward c.rest_at.ensures c.in_ok-n.ensures) in omega (arith, (tag_took (rest_self _ _) 91 c.in_ok-c1.ensures).up, k.step.up, k.step.inside, c.requires)

pub returns-in_err-c3 : goal.returns-in_err-c3
unfolding annotations_in_brackets
returns-in_err-c3 c = rw (passed_on c.from_residual-in_err-c3.ensures) (count_not _ _ _ _ _ (begin annotations_in_brackets _ _ (on _ (tag_took (rest_self _ _) 91 c.in_ok-c1.ensures) (go _ (count_took annotations_onward c.rest_at.ensures c.in_ok-n.ensures).step (pair_fall _ _ _ _ c.in_err-c3.ensures.at (skips_lost c.in_err-c3.ensures))))))

pub returns : goal.returns
unfolding annotations_in_brackets
returns c = let k = (count_took annotations_onward c.rest_at.ensures c.in_ok-n.ensures) in let t = (tag_after_took 93 c.in_ok-c3.ensures) in count_is _ _ _ _ k.value _ _ k.words (omega (arith, k.few, (tag_took (rest_self _ _) 91 c.in_ok-c1.ensures).up, k.step.up, t.up)) (begin annotations_in_brackets _ _ (on _ (tag_took (rest_self _ _) 91 c.in_ok-c1.ensures) (go _ k.step (pair_on _ _ _ t (done _ _ _ _)))))
