use mathlib.Core.Path.{sym, refl, ap, ◌∙◌}
use Rattle.lexing.specs.answers.{set_of}
use Rattle.lexing.specs.inner.word_sets.{initial}
use Rattle.lexing.proofs.word_sets.Laws.{eight_alone}
use Rattle.lexing.proofs.word_sets.words_by_front.Goals as goal

pub returns : goal.returns
returns c = eight_alone _ _ c.if-part-lt10.false (λ j. (c.shared_slice_known-1.given j).fits) c.eight_at.ensures c.if-part-ne32.false refl c.if-y-le47.false c.eight_flag-flag.ensures c.if-flag-eq0.false (ap (λ x. initial x (set_of c.args.set)) (sym c.lower_of.ensures) ∙ (sym c.is_initial.ensures ∙ c.if-is_initial.false))
