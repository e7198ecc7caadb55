use native.Mathlib.Omega.{arith}
use Rattle.items.specs.layout.{packed}
use Rattle.items.proofs.writing.first_word.Goals as goal

pub returns : goal.returns
unfolding packed
returns c = omega (arith, c.number.ensures, c.from.ensures)
