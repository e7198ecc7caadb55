use mathlib.Core.Path.{sym, ap, ◌∙◌}
use Rattle.lexing.specs.bytes.{lower}
use Rattle.lexing.specs.answers.{set_of}
use Rattle.lexing.specs.inner.word_sets.{initial}
use Rattle.lexing.proofs.word_sets.Laws.{set_none}
use Rattle.lexing.proofs.word_sets.keywords_set.Goals as goal

pub returns : goal.returns
returns c = set_none _ _ _ (ap (λ x. initial x (set_of c.args.set)) (sym (c.lower_of.ensures ∙ ap lower c.peek-x.ensures)) ∙ (sym c.is_initial-2.ensures ∙ c.if-is_initial-2.false))
