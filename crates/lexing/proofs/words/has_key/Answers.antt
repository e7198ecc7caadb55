use mathlib.Core.Path.{sym, ◌∙◌}
use Rattle.lexing.proofs.words.Laws.{key_letter, key_short, key_no_byte, key_more}
use Rattle.lexing.proofs.words.has_key.Goals as goal

pub returns-then-part-key : goal.returns-then-part-key
returns-then-part-key c = λ b. key_short _ b _ c.if-part-key.true

pub is_key_byte-requires : goal.is_key_byte-requires
is_key_byte-requires c = key_letter c.args.key.now c.requires _ c.loop-i-test.true

pub returns-then-not-is_key_byte : goal.returns-then-not-is_key_byte
returns-then-not-is_key_byte c = λ b. key_no_byte _ b _ _ c.loop-i-test.true (sym c.is_key_byte.ensures ∙ c.if-not-is_key_byte.true)

pub loop-i-preserved : goal.loop-i-preserved
loop-i-preserved c = key_more _ _ _ c.loop-i.invariant c.loop-i-test.true (sym c.is_key_byte.ensures ∙ c.if-not-is_key_byte.false)
