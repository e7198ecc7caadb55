-- Levels: keywords that stand for numbers, one of which the first letter selects.
use Rattle.lexing.specs.declared.answers.LostBy.TheVariants.{Fail}
use Rattle.lexing.specs.answers.{Read}
use Rattle.std.specs.Prelude.{Err}
use mathlib.Core.Path.{◌≡◌, sym, ◌∙◌}
use mathlib.Core.Bool.{true}
use mathlib.Core.List.{List, [], ◌∷◌}
use Prim.Native.Nat.{ℕ}
use lib.ListN.{get_or}
use Rattle.lexing.specs.bytes.{ascii, lower}
use Rattle.lexing.specs.reply.{Parser}
use Rattle.items.specs.inner.levels.{LevelTo, numbered}
use Rattle.lexing.proofs.AnswerLaws.{read_not}
use Rattle.items.proofs.Letters.{NoneOf, all_begin, initials_free}
use Rattle.items.proofs.Alternatives.{alternatives, keys, none_of_all}

-- those of each kind, but for the last
abbrev pub privileges : List (List ℕ × ℕ)
privileges = (ascii "view", 0) ∷ (ascii "operate", 1) ∷ (ascii "manage", 2) ∷ []

abbrev pub priorities : List (List ℕ × ℕ)
priorities = (ascii "info", 1) ∷ (ascii "critical", 0) ∷ []

abbrev pub handlings : List (List ℕ × ℕ)
handlings = (ascii "ram", 0) ∷ (ascii "callback", 1) ∷ []

module _ {A : Type 0} (f : A → ℕ) (b : ℕ) (u : List ℕ) where
  pub level_as : {m n : Parser ℕ} → n b u ≡ m b u → {r : Read A} → LevelTo f m r b u → LevelTo f n r b u
  level_as e h = record { reads = h.reads ∙ sym e; within = h.within }

  pub level_other : (ys : List ℕ) (ts : List (List ℕ × ℕ)) (t : List ℕ × ℕ) → all_begin ys (t.0 ∷ keys ts) ≡ true → (x : ℕ) → NoneOf ys x → lower (get_or u 0 0) ≡ x → LevelTo f (alternatives ts (numbered t.0 t.1)) (Err (Fail b)) b u
  level_other ys ts t e x n h = let f = initials_free b u ys x n h (t.0 ∷ keys ts) e in read_not (Fail b) (sym (none_of_all b u ts t f.1 f.0))
