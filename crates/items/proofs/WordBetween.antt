-- The word between two offsets: seen from another start, and its extent.
use mathlib.Core.Path.{◌≡◌, ap}
use mathlib.Core.List.{List}
use Prim.Native.Nat.{ℕ, ◌+◌, ◌-◌, ◌≤◌}
use native.Mathlib.Omega.{arith}
use lib.ListN.{length, drop, length-drop}
use lib.Seq.{length-take-le}
use Rattle.lexing.specs.answers.{word_between}
use Rattle.items.specs.records.{at, word_extent}

pub extent_between : (b : ℕ) (u : List ℕ) (o e : ℕ) → b ≤ o → o ≤ e → e ≤ b + length u → word_extent (word_between b u o e) ≡ at o (e - o)
unfolding word_extent
extent_between b u o e h k l = ap (at o) (length-take-le (e - o) (drop (o - b) u) (omega (arith, length-drop (o - b) u)))
