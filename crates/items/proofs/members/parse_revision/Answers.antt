use Rattle.lexing.proofs.Losses.{passed_on}
use Rattle.items.specs.clusters.{parse_revision}
use mathlib.Core.Path.{refl}
use native.Mathlib.Omega.{arith}
use Rattle.lexing.proofs.Slicing.{rest_self, begin, done}
use Rattle.lexing.proofs.AnswerLaws.{read_is, read_not}
use Rattle.lexing.proofs.Pairs.{pair_on, pair_fall, three_go, three_lose}
use Rattle.lexing.proofs.steps.Laws.{tag_after_took, skips_lost}
use Rattle.lexing.proofs.names.Laws.{number_took, keyword_number_on}
use Rattle.items.proofs.members.parse_revision.Goals as goal

pub returns-in_err-n : goal.returns-in_err-n
unfolding parse_revision
returns-in_err-n c = rw (passed_on c.from_residual.ensures) (read_not _ (begin (parse_revision) _ _ (three_lose _ _ _ _ _ (rest_self _ _) c.in_err-n.ensures)))

pub tag_after-requires : goal.tag_after-requires
tag_after-requires c = let t = number_took (keyword_number_on _) (rest_self _ _) c.in_ok-n.ensures in omega (arith, t.up, t.inside, c.requires)

pub returns-in_err-c2 : goal.returns-in_err-c2
unfolding parse_revision
returns-in_err-c2 c = rw (passed_on c.from_residual-in_err-c2.ensures) (read_not _ (begin (parse_revision) _ _ (three_go _ _ _ _ (number_took (keyword_number_on _) (rest_self _ _) c.in_ok-n.ensures) (pair_fall _ _ _ _ c.in_err-c2.ensures.at (skips_lost c.in_err-c2.ensures)))))

pub returns : goal.returns
unfolding parse_revision
returns c = read_is refl (begin (parse_revision) _ _ (three_go _ _ _ _ (number_took (keyword_number_on _) (rest_self _ _) c.in_ok-n.ensures) (pair_on _ _ _ (tag_after_took 59 c.in_ok-c2.ensures) (done _ _ _ _)))) tt
