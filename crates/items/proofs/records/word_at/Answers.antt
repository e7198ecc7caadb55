use native.Mathlib.Omega.{arith}
use Rattle.items.proofs.records.Laws.{word_at_is}
use Rattle.items.proofs.records.word_at.Goals as goal

pub returns : goal.returns
returns c = omega (arith, word_at_is c.args.bytes.now c.args.at c.requires, c.wide.ensures.value, c.wide-2.ensures.value, c.wide-3.ensures.value, c.wide-4.ensures.value, c.wide-5.ensures.value, c.wide-6.ensures.value, c.wide-7.ensures.value, c.wide-8.ensures.value)
