use Prim.Native.Nat.{◌-◌, ◌+◌}
use lib.ListN.{length}
use Rattle.items.proofs.counts.Laws.{Counting}
use Rattle.items.proofs.runs.count_run.Given as goal

abbrev pub invariant-loop-e : goal.invariant-loop-e
invariant-loop-e g l = let e = g.E.Element in Counting e.all e.reads l.base l.part l.c l.n

abbrev pub decreases-loop-e : goal.decreases-loop-e
decreases-loop-e g l = l.base + length l.part - l.c
