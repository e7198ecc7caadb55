use Rattle.lexing.proofs.AnswerLaws.{read_lost}
use Rattle.lexing.proofs.Losses.{passed_on}
use Rattle.items.specs.structs.{parse_struct_field}
use Rattle.items.proofs.SetSizes.{fits}
use Rattle.lexing.proofs.AnswerLaws.{read_is, read_not}
use Rattle.items.proofs.fields.Laws.{between_wider, field_took}
use mathlib.Core.Path.{refl}
use native.Mathlib.Omega.{arith}
use Rattle.lexing.proofs.Slicing.{rest_self, begin, go, lose, done, set_took}
use Rattle.lexing.proofs.Pairs.{between_go}
use Rattle.items.proofs.maturity.Laws.{between_took}
use Rattle.items.proofs.fields.parse_struct_field.Goals as goal

pub rest_at-requires : goal.rest_at-requires
rest_at-requires c = let t = between_took (rest_self _ _) c.maturity_between-maturity.ensures in omega (arith, t.up, t.inside)

pub keywords_set-set-requires : goal.keywords_set-set-requires
keywords_set-set-requires c = omega (arith, c.rest_at.ensures.size, c.requires)

pub rest_at-requires-2 : goal.rest_at-requires-2
rest_at-requires-2 c = let t = set_took c.rest_at.ensures c.keywords_set-set.ensures in omega (arith, t.up, t.inside, c.rest_at.ensures.from)

pub parse_field-requires : goal.parse_field-requires
parse_field-requires c = omega (arith, c.rest_at-2.ensures.size, c.requires)

pub returns-in_err-field : goal.returns-in_err-field
unfolding parse_struct_field
returns-in_err-field c = rw (passed_on c.from_residual.ensures) (read_not _ (begin (parse_struct_field) _ _ (between_go _ _ _ _ (between_took (rest_self _ _) c.maturity_between-maturity.ensures) (go _ (set_took c.rest_at.ensures c.keywords_set-set.ensures) (lose _ _ _ c.rest_at-2.ensures (read_lost c.in_err-field.ensures))))))

pub returns : goal.returns
unfolding parse_struct_field
returns c = read_is refl (begin (parse_struct_field) _ _ (between_go _ _ _ _ (between_took (rest_self _ _) c.maturity_between-maturity.ensures) (go _ (set_took c.rest_at.ensures c.keywords_set-set.ensures) (go _ (field_took c.rest_at-2.ensures c.in_ok-field.ensures) (done _ _ _ _))))) (record { between = between_wider c.rest_at-2.ensures.from (omega arith) c.in_ok-field.ensures.within; few_flags = fits c.keywords_set-set.ensures })
