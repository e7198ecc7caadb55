use native.Mathlib.Omega.{arith}
use Rattle.items.proofs.records.Laws.{doc_in}
use Rattle.items.proofs.records.doc_present_at.Goals as goal

pub returns : goal.returns
returns c = omega (arith, doc_in c.args.bytes.now c.args.at, c.word_at.ensures)
