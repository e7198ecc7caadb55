use native.Mathlib.Omega.{arith}
use Rattle.items.proofs.writing.Laws.{bit_small, documented_fits}
use Rattle.items.proofs.choices.Laws.{choice_first_put}
use Rattle.items.proofs.choices.put_choice.Goals as goal

pub overflow_mul-first : goal.overflow_mul-first
overflow_mul-first c = let z = bit_small c.args.head.shared in let y = c.flag.ensures in omega (arith, z, y)

pub first_word-requires : goal.first_word-requires
first_word-requires c = let z = bit_small c.args.head.shared in let w = c.requires.choice_head_between in documented_fits c.args.front c.requires.front_fits c.doc_bit.ensures (omega (arith, z, c.flag.ensures)) (omega (arith, w.name_to, w.base_from, w.base_to, w.before)) (omega (arith, w.name_to, w.base_from, w.base_to, w.before))

pub returns : goal.returns
returns c = choice_first_put c.args.front c.args.head c.args.at _ _ _ _ _ _ c.args.out.now _ c.number.ensures c.doc_bit.ensures c.flag.ensures c.first_word.ensures c.doc_word.ensures c.span_word-base.ensures c.put_words.ensures
