use mathlib.Core.Path.{sym, ap, ◌∙◌}
use mathlib.Core.Bool.{Bool}
use Prim.Native.Nat.{ℕ}
use native.Mathlib.Omega.{arith}
use Rattle.lexing.specs.integers.{signed}
use Rattle.items.specs.records.{twos_complement}
use Rattle.items.proofs.defaults.Laws.{complement_zero, complement_negative, complement_positive}
use Rattle.items.proofs.defaults.twos_complement.Goals as goal

pub returns-then-v-eq0 : goal.returns-then-v-eq0
returns-then-v-eq0 c = sym (ap (λ (x : ℕ). twos_complement (signed c.args.s.negative x)) c.if-v-eq0.true ∙ complement_zero c.args.s.negative)

pub returns-then-s : goal.returns-then-s
returns-then-s c = sym (complement_negative c.args.s.magnitude (omega (arith, c.if-v-eq0.false))) ∙ sym (ap (λ (x : Bool). twos_complement (signed x c.args.s.magnitude)) c.if-s.true)

pub returns : goal.returns
returns c = sym (complement_positive c.args.s.magnitude) ∙ sym (ap (λ (x : Bool). twos_complement (signed x c.args.s.magnitude)) c.if-s.false)
