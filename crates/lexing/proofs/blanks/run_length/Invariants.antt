use Prim.Native.Nat.{ℕ, ◌-◌}
use mathlib.Core.Bool.{Bool}
use lib.ListN.{length}
use Rattle.lexing.specs.bytes.{list_take_while}
use Rattle.lexing.specs.inner.blanks.{IsTest}
use Rattle.lexing.proofs.Scans.{RunAt}
use Rattle.lexing.proofs.blanks.run_length.Given as goal

abbrev pub invariant-loop-i : goal.invariant-loop-i
invariant-loop-i g l = (f : ℕ → Bool) → IsTest (goal.F-post g l.passes) f → RunAt f l.part (length (list_take_while f l.part)) l.i

abbrev pub decreases-loop-i : goal.decreases-loop-i
decreases-loop-i g l = length l.part - l.i
