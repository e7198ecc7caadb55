use native.Mathlib.Omega.{arith}
use Rattle.lexing.proofs.integers.Laws.{product_fits, no_room, room}
use Rattle.lexing.proofs.integers.fits_with.Goals as goal

pub returns-then-most_of-v : goal.returns-then-most_of-v
returns-then-most_of-v c = no_room c.args.hex _ _ c.most_of.ensures c.if-most_of-v.true _

pub overflow_mul-result : goal.overflow_mul-result
overflow_mul-result c = omega (arith, product_fits c.args.hex c.args.v _ c.most_of.ensures c.if-most_of-v.false c.radix_of.result c.radix_of.ensures)

pub returns : goal.returns
returns c = room c.args.hex c.args.v c.args.d c.radix_of.result c.radix_of.ensures (omega arith)
