use Prim.Native.Nat.{◌-◌}
use lib.ListN.{length}
use mathlib.Core.Bool.{false}
use Rattle.matter_idl.proofs.survey.Laws.{CountingSections}
use Rattle.matter_idl.proofs.survey.count_accepted.Given as goal

abbrev pub invariant-loop-i : goal.invariant-loop-i
invariant-loop-i l = CountingSections l.text.bytes.now l.i l.start false l.n l.accepted_bits

abbrev pub decreases-loop-i : goal.decreases-loop-i
decreases-loop-i l = length l.text.bytes.now - l.start
