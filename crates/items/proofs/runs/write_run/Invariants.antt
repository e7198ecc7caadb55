use Prim.Native.Nat.{◌-◌, ◌+◌}
use lib.ListN.{length}
use Rattle.items.proofs.writing.Laws.{Writing}
use Rattle.items.proofs.runs.write_run.Given as goal

abbrev pub invariant-loop-e : goal.invariant-loop-e
invariant-loop-e g l = let e = g.E.Element in Writing e.all e.reads l.base l.part l.c l.at l.initial.out l.out l.to

abbrev pub decreases-loop-e : goal.decreases-loop-e
decreases-loop-e g l = l.base + length l.part - l.c
