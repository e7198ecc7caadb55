use Prim.Native.Nat.{◌-◌}
use Rattle.matter_idl.proofs.hoisting.Laws.{Searching}
use Rattle.matter_idl.proofs.hoisting.search_records.Given as goal

abbrev pub invariant-loop-at : goal.invariant-loop-at
invariant-loop-at l = Searching l.text.bytes.now l.out l.end l.kind l.name l.at

abbrev pub decreases-loop-at : goal.decreases-loop-at
decreases-loop-at l = l.end - l.at
