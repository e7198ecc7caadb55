use native.Mathlib.Omega.{arith}
use Rattle.items.proofs.records.Laws.{flags_in}
use Rattle.items.proofs.records.flags_at.Goals as goal

pub returns : goal.returns
returns c = omega (arith, flags_in c.args.bytes.now c.args.at, c.word_at.ensures)
