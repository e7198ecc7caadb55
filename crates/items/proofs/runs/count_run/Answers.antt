use native.Mathlib.Omega.{arith}
use Rattle.items.proofs.counts.Laws.{counting_start, run_more, run_ends}
use Rattle.items.proofs.runs.count_run.Goals as goal

pub loop-e-init : goal.loop-e-init
loop-e-init g c = counting_start c.requires.repeats.elementwise g.E.Element.reads _ _

pub rest_at-requires : goal.rest_at-requires
rest_at-requires g c = omega (arith, c.loop-e.invariant.run.from, c.loop-e.invariant.run.inside)

pub words-n-requires : goal.words-n-requires
words-n-requires g c = let s = run_more c.requires.repeats c.loop-e.invariant c.rest_at.ensures c.in-Ok.ensures in omega (arith, s.0.few, s.0.run.inside, c.requires.part_bound)

pub overflow_add-n : goal.overflow_add-n
overflow_add-n g c = let s = run_more c.requires.repeats c.loop-e.invariant c.rest_at.ensures c.in-Ok.ensures in omega (arith, s.0.few, s.0.run.inside, c.requires.part_bound, c.words-n.ensures)

pub loop-e-smaller : goal.loop-e-smaller
loop-e-smaller g c = let s = run_more c.requires.repeats c.loop-e.invariant c.rest_at.ensures c.in-Ok.ensures in omega (arith, s.1, s.0.run.inside)

pub loop-e-preserved : goal.loop-e-preserved
loop-e-preserved g c = rw c.words-n.ensures (run_more c.requires.repeats c.loop-e.invariant c.rest_at.ensures c.in-Ok.ensures).0

pub returns-in-Err : goal.returns-in-Err
returns-in-Err g c = run_ends c.requires.repeats c.loop-e.invariant c.rest_at.ensures c.in-Err.ensures c.count_end.ensures
