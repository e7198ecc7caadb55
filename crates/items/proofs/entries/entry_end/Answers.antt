use Rattle.lexing.proofs.Losses.{passed_on}
use Rattle.items.specs.inner.entries.{entry_end}
use Rattle.items.proofs.entries.Laws.{end_is, end_not}
use native.Mathlib.Omega.{arith}
use Rattle.lexing.proofs.Slicing.{begin, go, on, lose, done}
use Rattle.lexing.proofs.Pairs.{pair_on, pair_fall}
use Rattle.lexing.proofs.steps.Laws.{blank_at_took, tag_after_took, skips_lost}
use Rattle.items.proofs.annotations.Laws.{annotations_list_onward}
use Rattle.items.proofs.counts.Laws.{count_took, count_lost}
use Rattle.items.proofs.entries.entry_end.Goals as goal

pub rest_at-requires : goal.rest_at-requires
rest_at-requires c = let t = blank_at_took c.blank_at-c1.ensures in omega (arith, t.up, t.inside)

pub returns-in_err-n : goal.returns-in_err-n
unfolding entry_end
returns-in_err-n c = rw (passed_on c.from_residual.ensures) (end_not _ _ _ λ e. (begin (entry_end e) _ _ (on _ (blank_at_took c.blank_at-c1.ensures) (lose _ _ _ c.rest_at.ensures (count_lost _ _ c.in_err-n.ensures)))))

pub tag_after-requires : goal.tag_after-requires
tag_after-requires c = let t = (count_took annotations_list_onward c.rest_at.ensures c.in_ok-n.ensures).step in omega (arith, t.up, t.inside, c.rest_at.ensures.from, c.requires)

pub returns-in_err-c3 : goal.returns-in_err-c3
unfolding entry_end
returns-in_err-c3 c = rw (passed_on c.from_residual-in_err-c3.ensures) (end_not _ _ _ λ e. (begin (entry_end e) _ _ (on _ (blank_at_took c.blank_at-c1.ensures) (go _ (count_took annotations_list_onward c.rest_at.ensures c.in_ok-n.ensures).step (pair_fall _ _ _ _ c.in_err-c3.ensures.at (skips_lost c.in_err-c3.ensures))))))

pub returns : goal.returns
unfolding entry_end
returns c = end_is (blank_at_took c.blank_at-c1.ensures) (count_took annotations_list_onward c.rest_at.ensures c.in_ok-n.ensures).step (count_took annotations_list_onward c.rest_at.ensures c.in_ok-n.ensures).words (omega (arith, (count_took annotations_list_onward c.rest_at.ensures c.in_ok-n.ensures).few, (blank_at_took c.blank_at-c1.ensures).up, (count_took annotations_list_onward c.rest_at.ensures c.in_ok-n.ensures).step.up, (tag_after_took 59 c.in_ok-c3.ensures).up)) λ e. (begin (entry_end e) _ _ (on _ (blank_at_took c.blank_at-c1.ensures) (go _ (count_took annotations_list_onward c.rest_at.ensures c.in_ok-n.ensures).step (pair_on _ _ _ (tag_after_took 59 c.in_ok-c3.ensures) (done _ _ _ _)))))
