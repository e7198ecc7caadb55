use native.Mathlib.Omega.{arith}
use mathlib.Core.Path.{refl, sym, ap, ◌∙◌}
use mathlib.Core.List.{[], ◌∷◌}
use Rattle.lexing.specs.bytes.{ascii, lower}
use Rattle.lexing.specs.word_sets.{same_bytes}
use Rattle.items.specs.declared.maturity.Maturity.TheVariants.{Stable, Provisional, Internal, Deprecated}
use Rattle.items.proofs.maturity.Laws.{maturity_left, maturity_other}
use Rattle.items.proofs.maturity.api_maturity.Goals as goal

pub returns-in-115 : goal.returns-in-115
unfolding same_bytes
returns-in-115 c = maturity_left _ ((ap lower (sym c.peek.ensures) ∙ sym c.lower_of-x.ensures) ∙ c.in-115.is) (ascii "stable") Stable refl c.maturity_by.ensures

pub returns-in-112 : goal.returns-in-112
unfolding same_bytes
returns-in-112 c = maturity_left _ ((ap lower (sym c.peek.ensures) ∙ sym c.lower_of-x.ensures) ∙ c.in-112.is) (ascii "provisional") Provisional refl c.maturity_by-in-112.ensures

pub returns-in-105 : goal.returns-in-105
unfolding same_bytes
returns-in-105 c = maturity_left _ ((ap lower (sym c.peek.ensures) ∙ sym c.lower_of-x.ensures) ∙ c.in-105.is) (ascii "internal") Internal refl c.maturity_by-in-105.ensures

pub returns-in-100 : goal.returns-in-100
unfolding same_bytes
returns-in-100 c = maturity_left _ ((ap lower (sym c.peek.ensures) ∙ sym c.lower_of-x.ensures) ∙ c.in-100.is) (ascii "deprecated") Deprecated refl c.maturity_by-in-100.ensures

pub returns-in_default : goal.returns-in_default
returns-in_default c = maturity_other _ _ (100 ∷ 105 ∷ 112 ∷ 115 ∷ []) refl _ ((((tt, omega arith), omega arith), omega arith), omega arith) (ap lower (sym c.peek.ensures) ∙ sym c.lower_of-x.ensures)
