use Rattle.lexing.proofs.AnswerLaws.{read_lost}
use Rattle.lexing.proofs.Losses.{passed_on}
use Rattle.items.specs.structs.{closed_field}
use Rattle.lexing.proofs.AnswerLaws.{read_is, read_not}
use Rattle.items.proofs.fields.Laws.{struct_between_wider, struct_field_took, field_after_on, field_after}
use mathlib.Core.Path.{refl}
use native.Mathlib.Omega.{arith}
use Rattle.lexing.proofs.Slicing.{rest_self, begin, done}
use Rattle.lexing.proofs.Pairs.{pair_go, pair_on, pair_lose, pair_fall}
use Rattle.lexing.proofs.steps.Laws.{tag_after_took, skips_lost}
use Rattle.items.proofs.fields.closed_field.Goals as goal

pub returns-in_err-field : goal.returns-in_err-field
unfolding closed_field
returns-in_err-field c = rw (passed_on c.from_residual.ensures) (read_not _ (begin (closed_field) _ _ (pair_lose _ _ _ _ (rest_self _ _) (read_lost (field_after c.in_err-field.ensures)))))

pub tag_after-requires : goal.tag_after-requires
tag_after-requires c = let t = struct_field_took field_after_on (rest_self _ _) (field_after c.in_ok-field.ensures) in omega (arith, t.up, t.inside, c.requires)

pub returns-in_err-c2 : goal.returns-in_err-c2
unfolding closed_field
returns-in_err-c2 c = rw (passed_on c.from_residual-in_err-c2.ensures) (read_not _ (begin (closed_field) _ _ (pair_go _ _ _ (struct_field_took field_after_on (rest_self _ _) (field_after c.in_ok-field.ensures)) (pair_fall _ _ _ _ c.in_err-c2.ensures.at (skips_lost c.in_err-c2.ensures)))))

pub returns : goal.returns
unfolding closed_field
returns c = read_is refl (begin (closed_field) _ _ (pair_go _ _ _ (struct_field_took field_after_on (rest_self _ _) (field_after c.in_ok-field.ensures)) (pair_on _ _ _ (tag_after_took 59 c.in_ok-c2.ensures) (done _ _ _ _)))) (struct_between_wider (omega arith) (tag_after_took 59 c.in_ok-c2.ensures).up c.in_ok-field.ensures.within)
