use native.Mathlib.Omega.{arith}
use Rattle.items.proofs.records.Laws.{maturity_in}
use Rattle.items.proofs.records.maturity_at.Goals as goal

pub returns : goal.returns
returns c = omega (arith, maturity_in c.args.bytes.now c.args.at, c.word_at.ensures)
