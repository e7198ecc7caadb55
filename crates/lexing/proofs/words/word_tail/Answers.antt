use mathlib.Core.Path.{sym, ◌∙◌}
use Rattle.lexing.proofs.Scans.{runs_from, runs_more, runs_stop, runs_out}
use Rattle.lexing.proofs.words.word_tail.Goals as goal

pub loop-i-init : goal.loop-i-init
loop-i-init c = runs_from _ _ _ c.requires

pub returns-then-not-is_word : goal.returns-then-not-is_word
returns-then-not-is_word c = runs_stop _ _ _ c.loop-i.invariant c.loop-i-test.true (sym c.is_word.ensures ∙ c.if-not-is_word.true)

pub loop-i-preserved : goal.loop-i-preserved
loop-i-preserved c = runs_more _ _ _ c.loop-i.invariant c.loop-i-test.true (sym c.is_word.ensures ∙ c.if-not-is_word.false)

pub returns : goal.returns
returns c = runs_out _ _ _ c.loop-i.invariant c.loop-i-test.false
