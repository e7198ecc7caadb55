-- The scan for the first cut: what the bytes that are passed leave of a text's sections.
use mathlib.Core.Path.{◌≡◌, refl, sym, ap, ◌∙◌}
use mathlib.Core.Bool.{Bool, true, false, ◌||◌, false≢true}
use mathlib.Core.List.{List, [], ◌∷◌, ◌++◌, append_assoc, append-nil}
use Prim.Native.Nat.{ℕ, ◌+◌, ◌-◌, ◌≤◌, ◌<◌}
use native.Mathlib.Numerals.{add-one}
use native.Mathlib.Omega.{arith}
use lib.Dec.{eqb}
use lib.ListN.{length, take, drop, get_or, drop_of_length-le}
use lib.Seq.{drop-cons, take-suc, take_all}
use borrow.Author.Count.{below_more}
use Rattle.lexing.proofs.Tests.{or_false}
use Rattle.lexing.proofs.Scans.{turns, both_runs}
use Rattle.matter_idl.specs.sections.{line_feed, cut_after, before_first, cut_from, sections}
use Rattle.matter_idl.specs.inner.sections.{cut_at, Cutless, prefixed, left_at, Uncut, FirstSection}

prefixed_more : (xs : List ℕ) (x : ℕ) (ss : List (List ℕ)) → prefixed xs (before_first x ss) ≡ prefixed (xs ++ (x ∷ [])) ss
unfolding prefixed before_first
prefixed_more xs x [] = refl
prefixed_more xs x (s ∷ ss) = ap (λ (l : List ℕ). l ∷ ss) (sym (append_assoc xs (x ∷ []) s))

prefixed_one : (x : ℕ) (ss : List (List ℕ)) → before_first x ss ≡ prefixed (x ∷ []) ss
unfolding prefixed before_first
prefixed_one x [] = refl
prefixed_one x (s ∷ ss) = refl

prefixed_some : (xs : List ℕ) (ss : List (List ℕ)) → 0 < length (prefixed xs ss)
unfolding prefixed
prefixed_some xs [] = omega arith
prefixed_some xs (s ∷ ss) = omega arith

module _ (u : List ℕ) (i : ℕ) where
  at_cut : i < length u → cut_at u i ≡ true → left_at u i ≡ (get_or u i 0 ∷ []) ∷ sections (drop (i + 1) u)
  unfolding cut_from sections
  at_cut l e = rw (add-one, drop-cons u i 0, cut_from, e) refl

  at_none : i < length u → cut_at u i ≡ false → left_at u i ≡ before_first (get_or u i 0) (left_at u (i + 1))
  unfolding cut_from
  at_none l e = let z : i + 1 - 1 ≡ i = omega arith in rw (z, add-one, drop-cons u i 0, cut_from, e) refl

  at_end : length u ≤ i → left_at u i ≡ [] ∷ []
  unfolding cut_from
  at_end l = rw (drop_of_length-le u l) refl

pub uncut_start : (u : List ℕ) → Uncut u 1
unfolding sections cut_from cut_after prefixed
uncut_start [] = record { from = omega arith; inside = omega arith; is = refl }
uncut_start (x ∷ u) = record { from = omega arith; inside = omega arith; is = prefixed_one x (cut_from (eqb x line_feed) u) }

-- there is a section
pub sections_some : (u : List ℕ) → 0 < length (sections u)
sections_some u = omega (arith, ap length (uncut_start u).is, prefixed_some (take 1 u) (left_at u 1))

module _ {u : List ℕ} {i : ℕ} (h : Uncut u i) where
  module _ (l : i < length u) {t : Bool} (c : t ≡ cut_at u i) where
    one_more : take (i + 1) u ≡ take i u ++ (get_or u i 0 ∷ [])
    one_more = rw add-one (take-suc u i 0 l)

    pub uncut_more : t ≡ false → Uncut u (i + 1)
    uncut_more e = record {
      from = omega (arith, h.from);
      inside = omega arith;
      is = h.is ∙ (ap (prefixed (take i u)) (at_none u i l (sym c ∙ e)) ∙ (prefixed_more (take i u) (get_or u i 0) (left_at u (i + 1)) ∙ ap (λ (xs : List ℕ). prefixed xs (left_at u (i + 1))) (sym one_more)));
    }

    pub cut_found : t ≡ true → (b : ℕ) {r : ℕ} → r ≡ b + i + 1 → FirstSection (record { end = r; last = false }) b u
    unfolding prefixed
    cut_found e b {r} z =
        let y : r - b ≡ i + 1 = omega arith in
        record {
          from = omega arith;
          onward = λ _. omega arith;
          inside = omega arith;
          is = rw (y, one_more) (h.is ∙ ap (prefixed (take i u)) (at_cut u i l (sym c ∙ e)));
        }

  pub cut_nowhere : length u ≤ i → (b : ℕ) {r : ℕ} → r ≡ b + length u → FirstSection (record { end = r; last = true }) b u
  unfolding prefixed
  cut_nowhere l b {r} z =
      let y : r - b ≡ length u = omega arith in
      let x : take i u ≡ take (length u) u = take_all i u l ∙ sym (take_all (length u) u (omega arith)) in
      record {
        from = omega arith;
        onward = λ e. absurd (false≢true (sym e));
        inside = omega arith;
        is = h.is ∙ (ap (prefixed (take i u)) (at_end u i l) ∙ rw (y, x, append-nil) refl);
      }

-- Bytes that hold no cut, passed at once.

pub cutless_none : {u : List ℕ} {i : ℕ} → Cutless false u i 0
cutless_none = record { each = λ e j h. absurd (omega arith) }

-- one byte more
pub cutless_more : {r s : Bool} {u : List ℕ} {i n : ℕ} → Cutless r u i n → s ≡ cut_at u (i + n) → Cutless (r || s) u i (n + 1)
cutless_more {r} {s} {u} {i} {n} p c = record { each = λ e. below_more _ n (p.each (or_false r s e).0) (sym c ∙ (or_false r s e).1) }

-- n bytes, and m after them
cutless_join : (n m : ℕ) {r s : Bool} {u : List ℕ} {i : ℕ} → Cutless r u i n → Cutless s u (i + n) m → Cutless (r || s) u i (n + m)
cutless_join n m {r} {s} {u} {i} p q = record { each = λ e. both_runs (λ k. cut_at u k ≡ false) i n m (p.each (or_false r s e).0) (q.each (or_false r s e).1) }

-- four times n bytes
pub cutless_four : (n : ℕ) {r s t v : Bool} {u : List ℕ} {i : ℕ} → Cutless r u i n → Cutless s u (i + n) n → Cutless t u (i + (n + n)) n → Cutless v u (i + (n + n + n)) n → Cutless (((r || s) || t) || v) u i (n + n + n + n)
cutless_four n p q a b = cutless_join (n + n + n) n (cutless_join (n + n) n (cutless_join n n p q) a) b

pub uncut_run : (n : ℕ) {r : Bool} {u : List ℕ} {i : ℕ} → Uncut u i → i + n ≤ length u → Cutless r u i n → r ≡ false → Uncut u (i + n)
uncut_run n {u = u} {i = i} h l c e = turns (Uncut u) i n h (λ j q g. uncut_more g (omega arith) refl (c.each e j q))
