use mathlib.Core.Path.{refl}
use Rattle.lexing.specs.word_sets.{field_set, attribute_set}
use Rattle.lexing.specs.inner.eights.{pack}
use Rattle.lexing.specs.inner.word_sets.{some}
use Rattle.lexing.proofs.word_sets.eight_flag.Goals as goal

pub returns-in-Attribute-eq8749489600778560882 : goal.returns-in-Attribute-eq8749489600778560882
unfolding attribute_set pack
returns-in-Attribute-eq8749489600778560882 c = rw c.in-Attribute-eq8749489600778560882.is-0 (some 0 3 refl (record { key = refl; eight = refl; same = c.in-Attribute-eq8749489600778560882.is-1 }) refl)

pub returns-in-Field-eq7809644653626814575 : goal.returns-in-Field-eq7809644653626814575
unfolding field_set pack
returns-in-Field-eq7809644653626814575 c = rw c.in-Field-eq7809644653626814575.is-0 (some 0 2 refl (record { key = refl; eight = refl; same = c.in-Field-eq7809644653626814575.is-1 }) refl)

pub returns-in-Field-eq7308324465885869422 : goal.returns-in-Field-eq7308324465885869422
unfolding field_set pack
returns-in-Field-eq7308324465885869422 c = rw c.in-Field-eq7308324465885869422.is-0 (some 1 1 refl (record { key = refl; eight = refl; same = c.in-Field-eq7308324465885869422.is-1 }) refl)
