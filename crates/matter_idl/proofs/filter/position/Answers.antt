use mathlib.Core.Path.{refl}
use native.Mathlib.Omega.{arith}
use Rattle.matter_idl.specs.inner.filter.{position_of}
use Rattle.matter_idl.proofs.filter.Laws.{steps_small}
use Rattle.matter_idl.proofs.filter.position.Goals as goal

pub overflow_mul-result : goal.overflow_mul-result
overflow_mul-result c = omega (arith, steps_small c.ranges.h.fits c.requires)

pub overflow_add-result : goal.overflow_add-result
overflow_add-result c = omega (arith, steps_small c.ranges.h.fits c.requires)

pub returns : goal.returns
unfolding position_of
returns c = record { value = refl; upper_bound = omega arith }
