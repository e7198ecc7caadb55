use mathlib.Core.Path.{sym, ◌∙◌}
use Rattle.lexing.proofs.Scans.{runs_start, runs_more, runs_stop, runs_out}
use Rattle.lexing.proofs.blanks.run_length.Goals as goal

pub loop-i-init : goal.loop-i-init
loop-i-init g c f h = runs_start _ _

pub returns-then-not-passes : goal.returns-then-not-passes
returns-then-not-passes g c f h = runs_stop _ _ _ (c.loop-i.invariant f h) c.loop-i-test.true (sym (h _ _ c.passes.ensures) ∙ c.if-not-passes.true)

pub loop-i-preserved : goal.loop-i-preserved
loop-i-preserved g c f h = runs_more _ _ _ (c.loop-i.invariant f h) c.loop-i-test.true (sym (h _ _ c.passes.ensures) ∙ c.if-not-passes.false)

pub returns : goal.returns
returns g c f h = runs_out _ _ _ (c.loop-i.invariant f h) c.loop-i-test.false
