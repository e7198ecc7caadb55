use mathlib.Core.Path.{◌≡◌, refl, sym, ap}
use native.Mathlib.Omega.{arith}
use borrow.Author.Tests.{ne_eqb}
use Rattle.lexing.specs.strings.{default_escape}
use Rattle.lexing.proofs.strings.default_escape.Goals as goal

pub returns-in-34 : goal.returns-in-34
unfolding default_escape
returns-in-34 c = sym (ap default_escape c.in-34.is)

pub returns-in-92 : goal.returns-in-92
unfolding default_escape
returns-in-92 c = sym (ap default_escape c.in-92.is)

pub returns-in-110 : goal.returns-in-110
unfolding default_escape
returns-in-110 c = sym (ap default_escape c.in-110.is)

pub returns-in-116 : goal.returns-in-116
unfolding default_escape
returns-in-116 c = sym (ap default_escape c.in-116.is)

pub returns-in-114 : goal.returns-in-114
unfolding default_escape
returns-in-114 c = sym (ap default_escape c.in-114.is)

pub returns-in_default : goal.returns-in_default
unfolding default_escape
returns-in_default c =
    let n34 : c.args.x ≡ 34 → ⊥ = omega arith in
    let n92 : c.args.x ≡ 92 → ⊥ = omega arith in
    let n110 : c.args.x ≡ 110 → ⊥ = omega arith in
    let n116 : c.args.x ≡ 116 → ⊥ = omega arith in
    let n114 : c.args.x ≡ 114 → ⊥ = omega arith in
    rw (ne_eqb _ _ n34, ne_eqb _ _ n92, ne_eqb _ _ n110, ne_eqb _ _ n116, ne_eqb _ _ n114, default_escape) refl
