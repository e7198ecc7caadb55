use native.Mathlib.Omega.{arith}
use Rattle.items.proofs.writing.Laws.{documented_fits}
use Rattle.items.proofs.structs.Laws.{kind_small, struct_first_put}
use Rattle.items.proofs.structs.put_struct.Goals as goal

pub overflow_mul-first : goal.overflow_mul-first
overflow_mul-first c = omega (arith, kind_small c.args.head.kind, c.kind_number.ensures)

pub overflow_mul-first-2 : goal.overflow_mul-first-2
overflow_mul-first-2 c = omega (arith, c.requires.head_between.few_flags)

pub overflow_add-first : goal.overflow_add-first
overflow_add-first c = omega (arith, kind_small c.args.head.kind, c.kind_number.ensures, c.requires.head_between.few_flags)

pub overflow_sub-first : goal.overflow_sub-first
overflow_sub-first c = c.requires.head_between.name_to

pub first_word-requires : goal.first_word-requires
first_word-requires c = documented_fits c.args.front c.requires.front_fits c.doc_bit.ensures (omega (arith, kind_small c.args.head.kind, c.kind_number.ensures, c.requires.head_between.few_flags)) (omega (arith, c.requires.head_between.name_to, c.requires.head_between)) (omega (arith, c.requires.head_between.name_to, c.requires.head_between))

pub doc_word-requires : goal.doc_word-requires
doc_word-requires c = c.requires.front_fits.doc_fits

pub returns : goal.returns
returns c = struct_first_put c.args.front c.args.head c.args.at _ _ _ _ _ c.args.out.now _ c.doc_bit.ensures c.kind_number.ensures c.first_word.ensures c.doc_word.ensures c.response_number-code.ensures c.put_words.ensures
