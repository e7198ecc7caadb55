use Rattle.items.specs.answers.{privilege_number}
use native.Mathlib.Omega.{arith}
use mathlib.Core.Path.{refl, sym, ap, ◌∙◌}
use mathlib.Core.List.{[], ◌∷◌}
use Rattle.lexing.specs.bytes.{ascii, lower}
use Rattle.lexing.specs.word_sets.{same_bytes}
use Rattle.items.specs.members.{access_privilege}
use Rattle.items.specs.inner.levels.{numbered}
use Rattle.items.proofs.Alternatives.{one_of_all, last_of_all}
use Rattle.items.proofs.levels.Keywords.{level_as, level_other, privileges}
use Rattle.items.proofs.levels.access_privilege.Goals as goal

pub returns-in-118 : goal.returns-in-118
unfolding same_bytes access_privilege numbered
returns-in-118 c = level_as privilege_number _ _ (one_of_all _ _ _ ((ap lower (sym c.peek.ensures) ∙ sym c.lower_of-x.ensures) ∙ c.in-118.is) (ascii "view") 0 privileges (ascii "administer", 3) refl refl) (c.level_by.ensures privilege_number)

pub returns-in-111 : goal.returns-in-111
unfolding same_bytes access_privilege numbered
returns-in-111 c = level_as privilege_number _ _ (one_of_all _ _ _ ((ap lower (sym c.peek.ensures) ∙ sym c.lower_of-x.ensures) ∙ c.in-111.is) (ascii "operate") 1 privileges (ascii "administer", 3) refl refl) (c.level_by-in-111.ensures privilege_number)

pub returns-in-109 : goal.returns-in-109
unfolding same_bytes access_privilege numbered
returns-in-109 c = level_as privilege_number _ _ (one_of_all _ _ _ ((ap lower (sym c.peek.ensures) ∙ sym c.lower_of-x.ensures) ∙ c.in-109.is) (ascii "manage") 2 privileges (ascii "administer", 3) refl refl) (c.level_by-in-109.ensures privilege_number)

pub returns-in-97 : goal.returns-in-97
unfolding same_bytes access_privilege numbered
returns-in-97 c = level_as privilege_number _ _ (last_of_all _ _ _ ((ap lower (sym c.peek.ensures) ∙ sym c.lower_of-x.ensures) ∙ c.in-97.is) privileges (ascii "administer", 3) refl) (c.level_by-in-97.ensures privilege_number)

pub returns-in_default : goal.returns-in_default
unfolding access_privilege numbered
returns-in_default c = level_other privilege_number _ _ (97 ∷ 109 ∷ 111 ∷ 118 ∷ []) privileges (ascii "administer", 3) refl _ ((((tt, omega arith), omega arith), omega arith), omega arith) (ap lower (sym c.peek.ensures) ∙ sym c.lower_of-x.ensures)
