use borrow.Author.Tests.{eq-eqb, ne_eqb}
use mathlib.Core.Path.{refl}
use Rattle.items.proofs.member_kinds.third_letter_kind.Goals as goal

pub returns-then-y-eq97 : goal.returns-then-y-eq97
returns-then-y-eq97 c = rw (eq-eqb _ _ c.if-y-eq97.true) refl

pub returns-then-y-eq118 : goal.returns-then-y-eq118
returns-then-y-eq118 c = rw (ne_eqb _ _ c.if-y-eq97.false, eq-eqb _ _ c.if-y-eq118.true) refl

pub returns : goal.returns
returns c = rw (ne_eqb _ _ c.if-y-eq97.false, ne_eqb _ _ c.if-y-eq118.false) refl
