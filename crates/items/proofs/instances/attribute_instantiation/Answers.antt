use Rattle.lexing.proofs.Losses.{passed_on}
use Rattle.items.specs.endpoints.{attribute_instantiation}
use Rattle.lexing.proofs.AnswerLaws.{read_is, read_not, read_lost, read_took}
use Rattle.lexing.proofs.names.Laws.{named_in, named_took, keyword_name_on}
use Rattle.items.proofs.defaults.Laws.{default_within, optional_on}
use mathlib.Core.Path.{refl}
use native.Mathlib.Omega.{arith}
use Rattle.lexing.proofs.Slicing.{rest_self, begin, go, on, lose, fall, done}
use Rattle.lexing.proofs.Pairs.{pair_on, pair_fall, three_go, three_lose}
use Rattle.lexing.proofs.steps.Laws.{gap_at_took, tag_after_took, skips_lost}
use Rattle.items.proofs.levels.Laws.{handling_on}
use Rattle.items.proofs.instances.attribute_instantiation.Goals as goal

pub returns-in_err-handling : goal.returns-in_err-handling
unfolding attribute_instantiation
returns-in_err-handling c = rw (passed_on c.from_residual.ensures) (read_not _ (begin (attribute_instantiation) _ _ (lose _ _ _ (rest_self _ _) (read_lost c.in_err-handling.ensures))))

pub gap_at-requires : goal.gap_at-requires
gap_at-requires c = let t = read_took c.in_ok-handling.ensures handling_on (rest_self _ _) in omega (arith, t.up, t.inside, c.requires)

pub returns-in_err-c2 : goal.returns-in_err-c2
unfolding attribute_instantiation
returns-in_err-c2 c = rw (passed_on c.from_residual-in_err-c2.ensures) (read_not _ (begin (attribute_instantiation) _ _ (go _ (read_took c.in_ok-handling.ensures handling_on (rest_self _ _)) (fall _ _ _ c.in_err-c2.ensures.at (skips_lost c.in_err-c2.ensures)))))

pub rest_at-requires : goal.rest_at-requires
rest_at-requires c = let t = gap_at_took c.in_ok-c2.ensures in omega (arith, t.up, t.inside, c.in_ok-c2.ensures.at.from)

pub returns-in_err-named : goal.returns-in_err-named
unfolding attribute_instantiation
returns-in_err-named c = rw (passed_on c.from_residual-in_err-named.ensures) (read_not _ (begin (attribute_instantiation) _ _ (go _ (read_took c.in_ok-handling.ensures handling_on (rest_self _ _)) (on _ (gap_at_took c.in_ok-c2.ensures) (three_lose _ _ _ _ _ c.rest_at.ensures (read_lost c.in_err-named.ensures))))))

pub rest_at-requires-2 : goal.rest_at-requires-2
rest_at-requires-2 c = let t = named_took c.in_ok-named.ensures (keyword_name_on _) c.rest_at.ensures in omega (arith, t.up, t.inside, c.rest_at.ensures.from)

pub returns-in_err-default : goal.returns-in_err-default
unfolding attribute_instantiation
returns-in_err-default c = rw (passed_on c.from_residual-in_err-default.ensures) (read_not _ (begin (attribute_instantiation) _ _ (go _ (read_took c.in_ok-handling.ensures handling_on (rest_self _ _)) (on _ (gap_at_took c.in_ok-c2.ensures) (three_go _ _ _ _ (named_took c.in_ok-named.ensures (keyword_name_on _) c.rest_at.ensures) (lose _ _ _ c.rest_at-2.ensures (read_lost c.in_err-default.ensures)))))))

pub tag_after-requires : goal.tag_after-requires
tag_after-requires c = let t = read_took c.in_ok-default.ensures optional_on c.rest_at-2.ensures in omega (arith, t.up, t.inside, c.rest_at-2.ensures.from, c.requires)

pub returns-in_err-c5 : goal.returns-in_err-c5
unfolding attribute_instantiation
returns-in_err-c5 c = rw (passed_on c.from_residual-in_err-c5.ensures) (read_not _ (begin (attribute_instantiation) _ _ (go _ (read_took c.in_ok-handling.ensures handling_on (rest_self _ _)) (on _ (gap_at_took c.in_ok-c2.ensures) (three_go _ _ _ _ (named_took c.in_ok-named.ensures (keyword_name_on _) c.rest_at.ensures) (go _ (read_took c.in_ok-default.ensures optional_on c.rest_at-2.ensures) (pair_fall _ _ _ _ c.in_err-c5.ensures.at (skips_lost c.in_err-c5.ensures))))))))

pub returns : goal.returns
unfolding attribute_instantiation
returns c = read_is refl (begin (attribute_instantiation) _ _ (go _ (read_took c.in_ok-handling.ensures handling_on (rest_self _ _)) (on _ (gap_at_took c.in_ok-c2.ensures) (three_go _ _ _ _ (named_took c.in_ok-named.ensures (keyword_name_on _) c.rest_at.ensures) (go _ (read_took c.in_ok-default.ensures optional_on c.rest_at-2.ensures) (pair_on _ _ _ (tag_after_took 59 c.in_ok-c5.ensures) (done _ _ _ _))))))) (let w = named_in c.in_ok-named.ensures in record { named = record { from = omega (arith, w.from, c.rest_at.ensures.from); up = w.up; inside = omega (arith, w.inside, (read_took c.in_ok-default.ensures optional_on c.rest_at-2.ensures).up, (tag_after_took 59 c.in_ok-c5.ensures).up) }; spanned = default_within _ _ _ c.in_ok-default.ensures.within (omega (arith, (tag_after_took 59 c.in_ok-c5.ensures).up)) })
