use Rattle.lexing.proofs.Losses.{passed_on}
use Rattle.lexing.specs.names.{named_after}
use Rattle.lexing.proofs.names.Laws.{named_wider, named_took, two_keywords_name_on}
use mathlib.Core.Path.{refl}
use native.Mathlib.Omega.{arith}
use Rattle.lexing.proofs.Slicing.{rest_self, begin, go, lose, done}
use Rattle.lexing.proofs.AnswerLaws.{read_is, read_not, read_lost}
use Rattle.lexing.proofs.Pairs.{pair_on, pair_fall}
use Rattle.lexing.proofs.steps.Laws.{tag_after_took, skips_lost}
use Rattle.lexing.proofs.names.named_after.Goals as goal

pub returns-in_err-named : goal.returns-in_err-named
unfolding named_after
returns-in_err-named c = rw (passed_on c.from_residual.ensures) (read_not _ (begin (named_after _ _) _ _ (lose _ _ _ (rest_self _ _) (read_lost c.in_err-named.ensures))))

pub tag_after-requires : goal.tag_after-requires
tag_after-requires c = let t = named_took c.in_ok-named.ensures (two_keywords_name_on _ _) (rest_self _ _) in omega (arith, t.up, t.inside, c.requires.part_bound)

pub returns-in_err-c2 : goal.returns-in_err-c2
unfolding named_after
returns-in_err-c2 c = rw (passed_on c.from_residual-in_err-c2.ensures) (read_not _ (begin (named_after _ _) _ _ (go _ (named_took c.in_ok-named.ensures (two_keywords_name_on _ _) (rest_self _ _)) (pair_fall _ _ _ _ c.in_err-c2.ensures.at (skips_lost c.in_err-c2.ensures)))))

pub returns : goal.returns
unfolding named_after
returns c = read_is refl (begin (named_after _ _) _ _ (go _ (named_took c.in_ok-named.ensures (two_keywords_name_on _ _) (rest_self _ _)) (pair_on _ _ _ (tag_after_took 59 c.in_ok-c2.ensures) (done _ _ _ _)))) (named_wider c.in_ok-named.ensures (omega arith) (tag_after_took 59 c.in_ok-c2.ensures).up)
