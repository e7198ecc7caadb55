use mathlib.Core.Path.{refl}
use Rattle.std.proofs.lemmas.Nat.{and_mask}
use Rattle.matter_idl.specs.inner.bits.{has_bit}
use Rattle.matter_idl.proofs.bits.Bits.has.Goals as goal

pub returns : goal.returns
unfolding has_bit
returns c = rw (← c.self.view_is, and_mask _ 1) refl
