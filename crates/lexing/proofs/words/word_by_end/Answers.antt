use mathlib.Core.Path.{sym, ◌∙◌}
use native.Mathlib.Omega.{arith}
use Rattle.lexing.proofs.words.Laws.{word_inside, word_empty, word_digit, word_some}
use Rattle.lexing.proofs.words.word_by_end.Goals as goal

pub returns-then-e-i : goal.returns-then-e-i
returns-then-e-i c = word_empty c.args.base c.args.c c.args.part.now c.requires.base_le_c.0 _ c.requires.e_value c.if-e-i.true

pub bounds-part-i : goal.bounds-part-i
bounds-part-i c = omega (arith, word_inside c.args.base c.args.c c.args.part.now c.requires.base_le_c.0 _ c.requires.e_value, c.requires.e_value, c.if-e-i.false)

pub returns-then-is_digit : goal.returns-then-is_digit
returns-then-is_digit c = word_digit c.args.base c.args.c c.args.part.now c.requires.base_le_c.0 _ c.requires.e_value (sym c.is_digit.ensures ∙ c.if-is_digit.true)

pub overflow_add-result : goal.overflow_add-result
overflow_add-result c = omega (arith, word_inside c.args.base c.args.c c.args.part.now c.requires.base_le_c.0 _ c.requires.e_value, c.requires.base_le_c.1)

pub returns : goal.returns
returns c = word_some c.args.base c.args.c c.args.part.now c.requires.base_le_c.0 _ c.requires.e_value c.if-e-i.false (sym c.is_digit.ensures ∙ c.if-is_digit.false)
