use mathlib.Core.Path.{refl}
use Rattle.items.specs.inner.levels.{numbered}
use Rattle.items.proofs.Keywords.{keyword_value, keyword_not}
use Rattle.lexing.specs.declared.answers.LostBy.TheVariants.{Fail}
use Rattle.lexing.proofs.AnswerLaws.{read_is, read_not}
use Rattle.items.proofs.levels.level_by.Goals as goal

pub returns-in_default : goal.returns-in_default
unfolding numbered
returns-in_default g c = λ f. read_not (Fail c.args.base) (keyword_not _ (f c.args.level) _ _ _ c.in_default.ensures)

pub returns : goal.returns
unfolding numbered
returns g c = λ f. read_is refl (keyword_value _ (f c.args.level) _ _ _ c.in-Ok.ensures) tt
