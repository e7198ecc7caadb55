use Rattle.lexing.proofs.Losses.{passed_on}
use Rattle.items.specs.clusters.{cluster_head}
use Rattle.lexing.proofs.names.Laws.{named_in, named_took, keyword_name_on, code_after_on, number_at_took, number_at_lost}
use mathlib.Core.Path.{refl}
use native.Mathlib.Omega.{arith}
use Rattle.lexing.proofs.Slicing.{rest_self, begin, on, fall, done}
use Rattle.lexing.proofs.AnswerLaws.{read_is, read_not, read_lost}
use Rattle.lexing.proofs.Pairs.{three_go, three_lose, four_go, four_lose}
use Rattle.lexing.proofs.steps.Laws.{blank_at_took}
use Rattle.lexing.proofs.Dropping.{opt_skips}
use Rattle.lexing.proofs.answers.Laws.{skip_took}
use Rattle.items.proofs.clusters.Whole.{side_on}
use Rattle.items.proofs.clusters.cluster_head.Goals as goal

pub returns-in_err-c1 : goal.returns-in_err-c1
unfolding cluster_head
returns-in_err-c1 c = rw (passed_on c.from_residual.ensures) (read_not _ (begin (cluster_head) _ _ (fall _ _ _ (rest_self _ _) (opt_skips c.side.result c.side.ensures c.in_err-c1.ensures).reads)))

pub rest_at-requires : goal.rest_at-requires
rest_at-requires c = let t = skip_took side_on (rest_self _ _) (opt_skips c.side.result c.side.ensures c.in_ok-c1.ensures) in omega (arith, t.up, t.inside)

pub returns-in_err-named : goal.returns-in_err-named
unfolding cluster_head
returns-in_err-named c = rw (passed_on c.from_residual-in_err-named.ensures) (read_not _ (begin (cluster_head) _ _ (on _ (skip_took side_on (rest_self _ _) (opt_skips c.side.result c.side.ensures c.in_ok-c1.ensures)) (three_lose _ _ _ _ _ c.rest_at.ensures (read_lost c.in_err-named.ensures)))))

pub blank_equals_code-requires : goal.blank_equals_code-requires
blank_equals_code-requires c = let t = named_took c.in_ok-named.ensures (keyword_name_on _) c.rest_at.ensures in omega (arith, t.up, t.inside, c.rest_at.ensures.from, c.requires)

pub returns-in_err-code : goal.returns-in_err-code
unfolding cluster_head
returns-in_err-code c = rw (passed_on c.from_residual-in_err-code.ensures) (read_not _ (begin (cluster_head) _ _ (on _ (skip_took side_on (rest_self _ _) (opt_skips c.side.result c.side.ensures c.in_ok-c1.ensures)) (three_go _ _ _ _ (named_took c.in_ok-named.ensures (keyword_name_on _) c.rest_at.ensures) (four_lose _ _ _ _ _ _ c.in_err-code.ensures.at (number_at_lost c.in_err-code.ensures))))))

pub blank_at-c4-requires : goal.blank_at-c4-requires
blank_at-c4-requires c = let t = number_at_took c.in_ok-code.ensures code_after_on in omega (arith, t.up, t.inside, c.in_ok-code.ensures.at.from, c.requires)

pub returns : goal.returns
unfolding cluster_head
returns c = read_is refl (begin (cluster_head) _ _ (on _ (skip_took side_on (rest_self _ _) (opt_skips c.side.result c.side.ensures c.in_ok-c1.ensures)) (three_go _ _ _ _ (named_took c.in_ok-named.ensures (keyword_name_on _) c.rest_at.ensures) (four_go _ _ _ _ _ (number_at_took c.in_ok-code.ensures code_after_on) (on _ (blank_at_took c.blank_at-c4.ensures) (done _ _ _ _)))))) (let w = named_in c.in_ok-named.ensures in record { from = omega (arith, w.from, c.rest_at.ensures.from); up = w.up; inside = omega (arith, w.inside, (number_at_took c.in_ok-code.ensures code_after_on).up, (blank_at_took c.blank_at-c4.ensures).up) })
