use native.Mathlib.Omega.{arith}
use Rattle.items.specs.layout.{packed}
use Rattle.matter_idl.proofs.survey.entry_word.Goals as goal

pub returns : goal.returns
unfolding packed
returns c = omega arith
