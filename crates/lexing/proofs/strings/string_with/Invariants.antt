use Prim.Native.Nat.{ℕ, ◌-◌, ◌+◌, ◌≤◌}
use lib.ListN.{length}
use Rattle.lexing.specs.strings.{Escape}
use Rattle.lexing.specs.inner.strings.{IsEscape}
use Rattle.lexing.proofs.strings.Laws.{StringAt}
use Rattle.lexing.proofs.strings.string_with.Given as goal

abbrev pub invariant-loop-escape : goal.invariant-loop-escape
invariant-loop-escape g l = ((l.base ≤ l.c) × (l.c ≤ l.base + length l.part)) × ((f : ℕ → Escape) → IsEscape (goal.F-post g l.escape) f → StringAt f l.base l.part l.c)

abbrev pub decreases-loop-escape : goal.decreases-loop-escape
decreases-loop-escape g l = l.base + length l.part - l.c
