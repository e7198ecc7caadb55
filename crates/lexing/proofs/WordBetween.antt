-- The word between two offsets, seen from another start.
use mathlib.Core.Path.{◌≡◌, ap, ◌∙◌}
use mathlib.Core.List.{List}
use Prim.Native.Nat.{ℕ, ◌+◌, ◌-◌, ◌≤◌}
use native.Mathlib.Omega.{arith}
use lib.ListN.{take, drop}
use lib.Seq.{drop-drop}
use Rattle.lexing.specs.words.{word}
use Rattle.lexing.specs.answers.{Rest, word_between}

pub word_moved : (b n : ℕ) (u r : List ℕ) (o e : ℕ) → Rest b u n r → n ≤ o → word_between n r o e ≡ word_between b u o e
word_moved b n u r o e q h =
    let z : n - b + (o - n) ≡ o - b = omega (arith, q.from) in
    ap (λ (v : List ℕ). word o (take (e - o) v)) (ap (drop (o - n)) q.same ∙ (drop-drop (o - n) (n - b) u ∙ ap (λ (i : ℕ). drop i u) z))
