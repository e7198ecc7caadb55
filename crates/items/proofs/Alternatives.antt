-- Alternatives of keywords, each of which stands for a number: the first letter of a text selects one of them at the most.
use mathlib.Core.Path.{◌≡◌, refl, sym, ap, ◌∙◌}
use mathlib.Core.Bool.{Bool, true, false, ◌&&◌, ◌||◌, false≢true}
use mathlib.Core.List.{List, [], ◌∷◌}
use Prim.Native.Nat.{ℕ, max}
use native.Mathlib.Omega.{arith}
use lib.Dec.{eqb}
use lib.ListN.{get_or}
use borrow.Author.Tests.{eqb-true}
use Rattle.lexing.specs.bytes.{lower}
use Rattle.lexing.specs.reply.{Reply, ok, fail, stop, Parser, ret, ◌>>◌, ◌or◌, no_nearer}
use Rattle.lexing.specs.words.{Word, keyword}
use Rattle.lexing.specs.word_sets.{same_bytes}
use Rattle.lexing.proofs.Tests.{and_left, and_right}
use Rattle.lexing.proofs.FirstWord.{Frees}
use Rattle.lexing.proofs.words.Laws.{keyword_says}
use Rattle.lexing.proofs.word_sets.Laws.{same_eq}
use Rattle.items.specs.inner.levels.{numbered}
use Rattle.items.proofs.Choice.{Past, past_start, or_fail}
use Rattle.items.proofs.Letters.{all_out, outs_free, or_cases}
use Rattle.lexing.proofs.Sequences.{then_ok, then_fail}

-- one after the other, and z after them
abbrev pub alternatives : List (List ℕ × ℕ) → Parser ℕ → Parser ℕ
alternatives [] z = z
alternatives (t ∷ ts) z = numbered t.0 t.1 or alternatives ts z

abbrev pub keys : List (List ℕ × ℕ) → List (List ℕ)
keys [] = []
keys (t ∷ ts) = t.0 ∷ keys ts

-- by its first letter x, a text can begin with k, which stands for v, and with no other of them
abbrev pub leaves : ℕ → List ℕ → ℕ → List (List ℕ × ℕ) → Bool
leaves x k v [] = false
leaves x k v (t ∷ ts) = ((same_bytes t.0 k && eqb t.1 v) && all_out ((0, x) ∷ []) [] (keys ts)) || (all_out ((0, x) ∷ []) [] (t.0 ∷ []) && leaves x k v ts)

-- what a choice of two tries gives, by what each of them does
either : Reply ℕ → Reply ℕ → Reply ℕ
either (ok a c r) y = ok a c r
either (fail p) y = no_nearer p y
either (stop n p) y = stop n p

either_past : (b : ℕ) (x y : Reply ℕ) → Past b x → Past b y → Past b (either x y)
unfolding either no_nearer
either_past b (ok a c r) y h g = tt
either_past b (fail p) (ok a c r) h g = tt
either_past b (fail p) (fail q) h g = omega arith
either_past b (fail p) (stop n q) h g = tt
either_past b (stop n p) y h g = tt

either_alone : (b : ℕ) (x : Reply ℕ) → Past b x → either x (fail b) ≡ x
unfolding either no_nearer
either_alone b (ok a c r) h = refl
either_alone b (fail p) h = let z : max p b ≡ p = omega arith in ap fail z
either_alone b (stop n p) h = refl

module _ (b : ℕ) (u : List ℕ) where
  or_either : (m k : Parser ℕ) → (m or k) b u ≡ either (m b u) (k b u)
  unfolding ◌or◌ either
  or_either m k = go (m b u) refl
    where
      go : (x : Reply ℕ) → m b u ≡ x → (m or k) b u ≡ either x (k b u)
      go (ok a c r) e = rw (e, ◌or◌)
      go (fail p) e = rw (e, ◌or◌)
      go (stop n p) e = rw (e, ◌or◌)

  numbered_fail : (k : List ℕ) (v : ℕ) → keyword k b u ≡ fail b → numbered k v b u ≡ fail b
  unfolding numbered
  numbered_fail k v e = then_fail _ _ e

  pub numbered_past : (k : List ℕ) (v : ℕ) → Past b (numbered k v b u)
  unfolding numbered ret
  numbered_past k v = go (keyword k b u) refl
    where
      go : (x : Reply Word) → keyword k b u ≡ x → Past b ((keyword k >> ret v) b u)
      go (ok w c r) e = rw (then_ok (keyword k) (ret v) e) tt
      go (fail p) e = let z : p ≡ b = rw e at (keyword_says k b u) in rw (then_fail (keyword k) (ret v) e) (omega arith)
      go (stop n p) e = absurd (rw e at (keyword_says k b u))

  pub none_left : (ts : List (List ℕ × ℕ)) (z : Parser ℕ) → Frees b u (keys ts) → Past b (z b u) → alternatives ts z b u ≡ z b u
  none_left [] z f g = refl
  none_left (t ∷ ts) z f g = or_fail _ _ (numbered_fail t.0 t.1 f.0) ∙ (ap (no_nearer b) (none_left ts z f.1 g) ∙ sym (past_start b (z b u) g))

  module _ (x : ℕ) (h : lower (get_or u 0 0) ≡ x) where
    letter_out : (ks : List (List ℕ)) → all_out ((0, x) ∷ []) [] ks ≡ true → Frees b u ks
    letter_out ks e = outs_free b u ((0, x) ∷ []) (h, tt) [] tt ks e

    -- with something else after them
    pub one_left : (k : List ℕ) (v : ℕ) (ts : List (List ℕ × ℕ)) (z : Parser ℕ) → leaves x k v ts ≡ true → Past b (z b u) → alternatives ts z b u ≡ (numbered k v or z) b u
    one_left k v [] z e g = absurd (false≢true e)
    one_left k v (t ∷ ts) z e g = or_cases ((same_bytes t.0 k && eqb t.1 v) && all_out ((0, x) ∷ []) [] (keys ts)) _ e here (later (λ q. one_left k v ts z q g))
      where
        here : ((same_bytes t.0 k && eqb t.1 v) && all_out ((0, x) ∷ []) [] (keys ts)) ≡ true → alternatives (t ∷ ts) z b u ≡ (numbered k v or z) b u
        here q =
            let s = and_left (same_bytes t.0 k && eqb t.1 v) (all_out ((0, x) ∷ []) [] (keys ts)) q in
            let i = same_eq t.0 k (and_left (same_bytes t.0 k) (eqb t.1 v) s) in
            let j = eqb-true t.1 v (and_right (same_bytes t.0 k) (eqb t.1 v) s) in
            let f = letter_out (keys ts) (and_right (same_bytes t.0 k && eqb t.1 v) (all_out ((0, x) ∷ []) [] (keys ts)) q) in
            or_either (numbered t.0 t.1) (alternatives ts z) ∙ (rw (none_left ts z f g, i, j) refl ∙ sym (or_either (numbered k v) z))

        later : (leaves x k v ts ≡ true → alternatives ts z b u ≡ (numbered k v or z) b u) → (all_out ((0, x) ∷ []) [] (t.0 ∷ []) && leaves x k v ts) ≡ true → alternatives (t ∷ ts) z b u ≡ (numbered k v or z) b u
        later ih q =
            let f = letter_out (t.0 ∷ []) (and_left (all_out ((0, x) ∷ []) [] (t.0 ∷ [])) (leaves x k v ts) q) in
            let past : Past b ((numbered k v or z) b u) = rw (or_either (numbered k v) z) (either_past b _ _ (numbered_past k v) g) in
            or_fail _ _ (numbered_fail t.0 t.1 f.0) ∙ (ap (no_nearer b) (ih (and_right (all_out ((0, x) ∷ []) [] (t.0 ∷ [])) (leaves x k v ts) q)) ∙ sym (past_start b _ past))

    -- with one more of them after them
    pub one_of_all : (k : List ℕ) (v : ℕ) (ts : List (List ℕ × ℕ)) (t : List ℕ × ℕ) → leaves x k v ts ≡ true → all_out ((0, x) ∷ []) [] (t.0 ∷ []) ≡ true → alternatives ts (numbered t.0 t.1) b u ≡ numbered k v b u
    one_of_all k v ts t e o =
        let last = numbered_fail t.0 t.1 (letter_out (t.0 ∷ []) o).0 in
        one_left k v ts _ e (numbered_past t.0 t.1) ∙ (or_either (numbered k v) _ ∙ (ap (either (numbered k v b u)) last ∙ either_alone b _ (numbered_past k v)))

    pub last_of_all : (ts : List (List ℕ × ℕ)) (t : List ℕ × ℕ) → all_out ((0, x) ∷ []) [] (keys ts) ≡ true → alternatives ts (numbered t.0 t.1) b u ≡ numbered t.0 t.1 b u
    last_of_all ts t o = none_left ts _ (letter_out (keys ts) o) (numbered_past t.0 t.1)

  pub none_of_all : (ts : List (List ℕ × ℕ)) (t : List ℕ × ℕ) → Frees b u (keys ts) → keyword t.0 b u ≡ fail b → alternatives ts (numbered t.0 t.1) b u ≡ fail b
  none_of_all ts t f e = none_left ts _ f (numbered_past t.0 t.1) ∙ numbered_fail t.0 t.1 e
