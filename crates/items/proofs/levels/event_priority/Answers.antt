use Rattle.items.specs.answers.{priority_number}
use native.Mathlib.Omega.{arith}
use mathlib.Core.Path.{refl, sym, ap, ◌∙◌}
use mathlib.Core.List.{[], ◌∷◌}
use Rattle.lexing.specs.bytes.{ascii, lower}
use Rattle.lexing.specs.word_sets.{same_bytes}
use Rattle.items.specs.members.{event_priority}
use Rattle.items.specs.inner.levels.{numbered}
use Rattle.items.proofs.Alternatives.{one_of_all, last_of_all}
use Rattle.items.proofs.levels.Keywords.{level_as, level_other, priorities}
use Rattle.items.proofs.levels.event_priority.Goals as goal

pub returns-in-105 : goal.returns-in-105
unfolding same_bytes event_priority numbered
returns-in-105 c = level_as priority_number _ _ (one_of_all _ _ _ ((ap lower (sym c.peek.ensures) ∙ sym c.lower_of-x.ensures) ∙ c.in-105.is) (ascii "info") 1 priorities (ascii "debug", 2) refl refl) (c.level_by.ensures priority_number)

pub returns-in-99 : goal.returns-in-99
unfolding same_bytes event_priority numbered
returns-in-99 c = level_as priority_number _ _ (one_of_all _ _ _ ((ap lower (sym c.peek.ensures) ∙ sym c.lower_of-x.ensures) ∙ c.in-99.is) (ascii "critical") 0 priorities (ascii "debug", 2) refl refl) (c.level_by-in-99.ensures priority_number)

pub returns-in-100 : goal.returns-in-100
unfolding same_bytes event_priority numbered
returns-in-100 c = level_as priority_number _ _ (last_of_all _ _ _ ((ap lower (sym c.peek.ensures) ∙ sym c.lower_of-x.ensures) ∙ c.in-100.is) priorities (ascii "debug", 2) refl) (c.level_by-in-100.ensures priority_number)

pub returns-in_default : goal.returns-in_default
unfolding event_priority numbered
returns-in_default c = level_other priority_number _ _ (100 ∷ 99 ∷ 105 ∷ []) priorities (ascii "debug", 2) refl _ (((tt, omega arith), omega arith), omega arith) (ap lower (sym c.peek.ensures) ∙ sym c.lower_of-x.ensures)
