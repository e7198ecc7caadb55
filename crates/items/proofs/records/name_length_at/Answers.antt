use native.Mathlib.Omega.{arith}
use Rattle.items.proofs.records.Laws.{length_in}
use Rattle.items.proofs.records.name_length_at.Goals as goal

pub returns : goal.returns
returns c = omega (arith, length_in c.args.bytes.now c.args.at, c.word_at.ensures)
