use mathlib.Core.Path.{◌≡◌, refl, sym, ap}
use native.Mathlib.Omega.{arith}
use borrow.Author.Tests.{ne_eqb}
use Rattle.lexing.specs.strings.{annotation_escape}
use Rattle.lexing.proofs.strings.annotation_escape.Goals as goal

pub returns-in-34 : goal.returns-in-34
unfolding annotation_escape
returns-in-34 c = sym (ap annotation_escape c.in-34.is)

pub returns-in-92 : goal.returns-in-92
unfolding annotation_escape
returns-in-92 c = sym (ap annotation_escape c.in-92.is)

pub returns-in_default : goal.returns-in_default
unfolding annotation_escape
returns-in_default c =
    let n34 : c.args.x ≡ 34 → ⊥ = omega arith in
    let n92 : c.args.x ≡ 92 → ⊥ = omega arith in
    rw (ne_eqb _ _ n34, ne_eqb _ _ n92, annotation_escape) refl
