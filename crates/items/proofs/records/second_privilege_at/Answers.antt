use native.Mathlib.Omega.{arith}
use Rattle.items.proofs.records.Laws.{second_privilege_in}
use Rattle.items.proofs.records.second_privilege_at.Goals as goal

pub returns : goal.returns
returns c = omega (arith, second_privilege_in c.args.bytes.now c.args.at, c.word_at.ensures)
