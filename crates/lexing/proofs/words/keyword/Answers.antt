use mathlib.Core.Path.{sym, ◌∙◌, ap}
use native.Mathlib.Omega.{arith}
use Rattle.lexing.specs.bytes.{is_word}
use Rattle.lexing.proofs.words.Laws.{key_none, key_there, key_longer, key_read}
use Rattle.lexing.proofs.words.keyword.Goals as goal

pub returns-then-not-has_key : goal.returns-then-not-has_key
returns-then-not-has_key c = key_none c.has_key.result _ _ _ c.has_key.ensures c.if-not-has_key.true

pub returns-then-is_word : goal.returns-then-is_word
returns-then-is_word c = key_longer _ _ c.requires.key_value (key_there c.has_key.result c.args.key.now c.args.part.now c.has_key.ensures c.if-not-has_key.false) (ap is_word (sym c.peek.ensures) ∙ (sym c.is_word.ensures ∙ c.if-is_word.true)) _

pub overflow_add-result : goal.overflow_add-result
overflow_add-result c = omega (arith, (key_there c.has_key.result c.args.key.now c.args.part.now c.has_key.ensures c.if-not-has_key.false).enough, c.requires.part_bound)

pub returns : goal.returns
returns c = key_read _ _ c.requires.key_value (key_there c.has_key.result c.args.key.now c.args.part.now c.has_key.ensures c.if-not-has_key.false) (ap is_word (sym c.peek.ensures) ∙ (sym c.is_word.ensures ∙ c.if-is_word.false)) _
