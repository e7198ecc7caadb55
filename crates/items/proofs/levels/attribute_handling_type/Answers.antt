use Rattle.items.specs.answers.{handling_number}
use native.Mathlib.Omega.{arith}
use mathlib.Core.Path.{refl, sym, ap, ◌∙◌}
use mathlib.Core.List.{[], ◌∷◌}
use Rattle.lexing.specs.bytes.{ascii, lower}
use Rattle.lexing.specs.word_sets.{same_bytes}
use Rattle.items.specs.endpoints.{attribute_handling_type}
use Rattle.items.specs.inner.levels.{numbered}
use Rattle.items.proofs.Alternatives.{one_of_all, last_of_all}
use Rattle.items.proofs.levels.Keywords.{level_as, level_other, handlings}
use Rattle.items.proofs.levels.attribute_handling_type.Goals as goal

pub returns-in-114 : goal.returns-in-114
unfolding same_bytes attribute_handling_type numbered
returns-in-114 c = level_as handling_number _ _ (one_of_all _ _ _ ((ap lower (sym c.peek.ensures) ∙ sym c.lower_of-x.ensures) ∙ c.in-114.is) (ascii "ram") 0 handlings (ascii "persist", 2) refl refl) (c.level_by.ensures handling_number)

pub returns-in-99 : goal.returns-in-99
unfolding same_bytes attribute_handling_type numbered
returns-in-99 c = level_as handling_number _ _ (one_of_all _ _ _ ((ap lower (sym c.peek.ensures) ∙ sym c.lower_of-x.ensures) ∙ c.in-99.is) (ascii "callback") 1 handlings (ascii "persist", 2) refl refl) (c.level_by-in-99.ensures handling_number)

pub returns-in-112 : goal.returns-in-112
unfolding same_bytes attribute_handling_type numbered
returns-in-112 c = level_as handling_number _ _ (last_of_all _ _ _ ((ap lower (sym c.peek.ensures) ∙ sym c.lower_of-x.ensures) ∙ c.in-112.is) handlings (ascii "persist", 2) refl) (c.level_by-in-112.ensures handling_number)

pub returns-in_default : goal.returns-in_default
unfolding attribute_handling_type numbered
returns-in_default c = level_other handling_number _ _ (112 ∷ 99 ∷ 114 ∷ []) handlings (ascii "persist", 2) refl _ (((tt, omega arith), omega arith), omega arith) (ap lower (sym c.peek.ensures) ∙ sym c.lower_of-x.ensures)
