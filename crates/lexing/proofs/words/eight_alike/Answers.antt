use mathlib.Core.Path.{sym, ◌∙◌}
use native.Mathlib.Omega.{arith}
use Rattle.lexing.proofs.words.Laws.{key_eight}
use Rattle.lexing.proofs.words.eight_alike.Goals as goal

pub returns-then-eight_at : goal.returns-then-eight_at
returns-then-eight_at c = key_eight _ _ c.requires.key_value c.requires.key_in_bounds (omega arith) (λ j. (c.shared_slice_known-1.given j).fits) (λ j. (c.shared_slice_known-2-1.given j).fits) (sym c.eight_at.ensures ∙ (c.if-eight_at.true ∙ c.eight_at-2.ensures))
