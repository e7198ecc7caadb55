use native.Mathlib.Omega.{arith}
use Rattle.items.proofs.writing.Laws.{writing_start, run_fits, run_few, run_inside, run_wrote, run_written}
use Rattle.items.proofs.runs.write_run.Goals as goal

pub loop-e-init : goal.loop-e-init
loop-e-init g c = writing_start c.requires.repeats.elementwise _ _ _ _ _ c.requires.room

pub rest_at-rest-requires : goal.rest_at-rest-requires
rest_at-rest-requires g c = omega (arith, c.loop-e.invariant.run.from, c.loop-e.invariant.run.inside)

pub returns-in_default : goal.returns-in_default
returns-in_default g c = run_written c.requires.repeats c.requires.room c.loop-e.invariant c.rest_at-rest.ensures c.in_default.ensures

pub words-words-requires : goal.words-words-requires
words-words-requires g c = omega (arith, run_few c.requires.repeats c.requires.room c.loop-e.invariant c.rest_at-rest.ensures c.in-Ok.ensures, (run_fits c.requires.repeats c.requires.room c.loop-e.invariant c.rest_at-rest.ensures c.in-Ok.ensures).1.1, c.requires.part_bound)

pub overflow_mul-to : goal.overflow_mul-to
overflow_mul-to g c = omega (arith, (run_fits c.requires.repeats c.requires.room c.loop-e.invariant c.rest_at-rest.ensures c.in-Ok.ensures).0, c.words-words.ensures)

pub overflow_add-to : goal.overflow_add-to
overflow_add-to g c = omega (arith, (run_fits c.requires.repeats c.requires.room c.loop-e.invariant c.rest_at-rest.ensures c.in-Ok.ensures).0, c.words-words.ensures)

pub write-requires-clause-bounds : goal.write-requires-clause-bounds
write-requires-clause-bounds g c = run_inside c.requires.repeats c.requires.room c.loop-e.invariant c.rest_at-rest.ensures c.in-Ok.ensures

pub write-requires-clause-in_bounds : goal.write-requires-clause-in_bounds
write-requires-clause-in_bounds g c = (run_fits c.requires.repeats c.requires.room c.loop-e.invariant c.rest_at-rest.ensures c.in-Ok.ensures).1.0

pub loop-e-smaller : goal.loop-e-smaller
loop-e-smaller g c = omega (arith, (run_fits c.requires.repeats c.requires.room c.loop-e.invariant c.rest_at-rest.ensures c.in-Ok.ensures).1.1)

pub loop-e-preserved : goal.loop-e-preserved
loop-e-preserved g c = rw c.words-words.ensures (run_wrote c.requires.repeats c.requires.room c.loop-e.invariant c.rest_at-rest.ensures c.in-Ok.ensures c.write.ensures)
