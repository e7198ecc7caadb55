use native.Mathlib.Omega.{arith}
use Rattle.items.proofs.records.Laws.{offset_in}
use Rattle.items.proofs.records.name_offset_at.Goals as goal

pub returns : goal.returns
returns c = omega (arith, offset_in c.args.bytes.now c.args.at, c.word_at.ensures)
