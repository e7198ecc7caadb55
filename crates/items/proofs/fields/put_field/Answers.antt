use mathlib.Core.Path.{ap, ◌∙◌}
use Rattle.lexing.specs.word_sets.{bit}
use native.Mathlib.Omega.{arith}
use Rattle.items.proofs.writing.Laws.{bit_small, plain_fits}
use Rattle.items.proofs.fields.Laws.{field_put, maximum_or_zero}
use Rattle.items.proofs.fields.put_field.Goals as goal

pub overflow_mul-first : goal.overflow_mul-first
overflow_mul-first c = omega (arith, bit_small c.args.s.field.list, c.flag.ensures)

pub overflow_mul-first-2 : goal.overflow_mul-first-2
overflow_mul-first-2 c = omega (arith, bit_small c.is_some.result, c.flag-2.ensures)

pub overflow_add-first : goal.overflow_add-first
overflow_add-first c = omega (arith, bit_small c.args.s.field.list, c.flag.ensures, bit_small c.is_some.result, c.flag-2.ensures)

pub overflow_mul-first-3 : goal.overflow_mul-first-3
overflow_mul-first-3 c = omega (arith, c.requires.struct_field_between.few_flags)

pub overflow_add-first-2 : goal.overflow_add-first-2
overflow_add-first-2 c = omega (arith, bit_small c.args.s.field.list, c.flag.ensures, bit_small c.is_some.result, c.flag-2.ensures, c.requires.struct_field_between.few_flags)

pub overflow_sub-first : goal.overflow_sub-first
overflow_sub-first c = c.requires.struct_field_between.between.name_to

pub overflow_sub-f : goal.overflow_sub-f
overflow_sub-f c = c.requires.struct_field_between.between.type_to

pub span_word-typed-requires : goal.span_word-typed-requires
span_word-typed-requires c = record { offset_le_text_limit = omega (arith, c.requires.struct_field_between.between.type_to, c.requires.struct_field_between.between.name_from, c.requires.struct_field_between.between.name_to, c.requires.struct_field_between.between); size_le_text_limit = omega (arith, c.requires.struct_field_between.between.type_to, c.requires.struct_field_between.between.name_from, c.requires.struct_field_between.between.name_to, c.requires.struct_field_between.between) }

pub first_word-requires : goal.first_word-requires
first_word-requires c = plain_fits (omega (arith, bit_small c.args.s.field.list, c.flag.ensures, bit_small c.is_some.result, c.flag-2.ensures, c.requires.struct_field_between.few_flags)) (omega (arith, c.requires.struct_field_between.between.type_to, c.requires.struct_field_between.between.name_from, c.requires.struct_field_between.between.name_to, c.requires.struct_field_between.between)) (omega (arith, c.requires.struct_field_between.between.type_to, c.requires.struct_field_between.between.name_from, c.requires.struct_field_between.between.name_to, c.requires.struct_field_between.between))

pub returns : goal.returns
returns c = field_put c.args.s c.args.at _ _ _ _ _ c.args.out.now _ c.flag.ensures (c.flag-2.ensures ∙ ap bit c.is_some.ensures) c.first_word.ensures c.span_word-typed.ensures (c.unwrap_or.ensures ∙ maximum_or_zero _) c.put_words.ensures
