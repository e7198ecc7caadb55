-- Scans: a loop over the bytes of a part that ends at the first byte that fails a test.
use mathlib.Core.Path.{◌≡◌, refl, sym, ap, ◌∙◌, subst}
use mathlib.Core.List.{List, [], ◌∷◌}
use mathlib.Core.Bool.{Bool, true, false}
use Prim.Native.Nat.{ℕ, zero, suc, ◌+◌, ◌-◌, ◌≤◌, ◌<◌, zero-le}
use native.Mathlib.Omega.{arith}
use native.Mathlib.Numerals.{add-one}
use native.Mathlib.Nat.{add-zero}
use borrow.Author.Tests.{ltb-true, ltb-false}
use lib.Dec.{ltb}
use lib.ListN.{length, drop, take, get_or, drop_of_length-le}
use lib.Seq.{drop-cons, get_or-drop, get_or-take}
use Rattle.lexing.specs.bytes.{list_take_while, list_drop_while}
use Rattle.lexing.proofs.Runs.{run_length}

-- the first byte of a rest
pub first_of : (i : ℕ) (u : List ℕ) → get_or (drop i u) 0 0 ≡ get_or u i 0
first_of i u = rw (get_or-drop i u 0 0, add-zero)

-- the run, by its length
pub take_run : (f : ℕ → Bool) (u : List ℕ) → take (length (list_take_while f u)) u ≡ list_take_while f u
unfolding list_take_while
take_run f [] = refl
take_run f (x ∷ u) = go (f x) refl (take_run f u)
  where
    go : (t : Bool) → f x ≡ t → take (length (list_take_while f u)) u ≡ list_take_while f u → take (length (list_take_while f (x ∷ u))) (x ∷ u) ≡ list_take_while f (x ∷ u)
    go true e ih = rw (e, list_take_while) (ap (λ l. x ∷ l) ih)
    go false e ih = rw (e, list_take_while)

pub drop_run : (f : ℕ → Bool) (u : List ℕ) → drop (length (list_take_while f u)) u ≡ list_drop_while f u
unfolding list_take_while list_drop_while
drop_run f [] = refl
drop_run f (x ∷ u) = go (f x) refl (drop_run f u)
  where
    go : (t : Bool) → f x ≡ t → drop (length (list_take_while f u)) u ≡ list_drop_while f u → drop (length (list_take_while f (x ∷ u))) (x ∷ u) ≡ list_drop_while f (x ∷ u)
    go true e ih = rw (e, list_take_while, list_drop_while) ih
    go false e ih = rw (e, list_take_while, list_drop_while)

-- a byte of the run is the text's
pub run_byte : (f : ℕ → Bool) (u : List ℕ) (i : ℕ) → i < length (list_take_while f u) → get_or (list_take_while f u) i 0 ≡ get_or u i 0
run_byte f u i h = ap (λ (w : List ℕ). get_or w i 0) (sym (take_run f u)) ∙ get_or-take (length (list_take_while f u)) u i 0 h

pub run_le : (f : ℕ → Bool) (u : List ℕ) → length (list_take_while f u) ≤ length u
run_le f u = omega (arith, run_length f u)

-- the run at a byte that passes, and at one that fails
pub run_cons : (f : ℕ → Bool) (x : ℕ) (u : List ℕ) → f x ≡ true → list_take_while f (x ∷ u) ≡ x ∷ list_take_while f u
unfolding list_take_while
run_cons f x u e = rw (e, list_take_while)

pub run_none : (f : ℕ → Bool) (x : ℕ) (u : List ℕ) → f x ≡ false → list_take_while f (x ∷ u) ≡ []
unfolding list_take_while
run_none f x u e = rw (e, list_take_while)

-- the byte after the run fails, and so does 0, which stands for none
pub run_stops : (f : ℕ → Bool) → f 0 ≡ false → (u : List ℕ) → f (get_or u (length (list_take_while f u)) 0) ≡ false
unfolding list_take_while
run_stops f z [] = z
run_stops f z (x ∷ u) = go (f x) refl (run_stops f z u)
  where
    go : (t : Bool) → f x ≡ t → f (get_or u (length (list_take_while f u)) 0) ≡ false → f (get_or (x ∷ u) (length (list_take_while f (x ∷ u))) 0) ≡ false
    go true e ih = rw (e, list_take_while) ih
    go false e ih = rw (e, list_take_while) e

-- the bytes of the run pass
pub run_passes : (f : ℕ → Bool) (u : List ℕ) (i : ℕ) → i < length (list_take_while f u) → f (get_or u i 0) ≡ true
unfolding list_take_while
run_passes f [] i h = absurd (omega arith)
run_passes f (x ∷ u) i h = go (f x) refl i h (run_passes f u)
  where
    go : (t : Bool) → f x ≡ t → (i : ℕ) → i < length (list_take_while f (x ∷ u)) → ((i : ℕ) → i < length (list_take_while f u) → f (get_or u i 0) ≡ true) → f (get_or (x ∷ u) i 0) ≡ true
    go false e i l ih = absurd (let k : i < 0 = rw (e, list_take_while) at l in omega arith)
    go true e zero l ih = e
    go true e (suc i) l ih = ih i (let k : suc i < suc (length (list_take_while f u)) = rw (e, list_take_while) at l in omega arith)

run_nil : (f : ℕ → Bool) → list_take_while f [] ≡ []
unfolding list_take_while
run_nil f = refl

-- the invariant of a scan of a run that ends at place e: from place i on, it ends there as well
pub record RunAt (f : ℕ → Bool) (u : List ℕ) (e i : ℕ) : Type 0 where
  pub inside : i ≤ length u
  pub left : e ≡ i + length (list_take_while f (drop i u))

pub runs_from : (f : ℕ → Bool) (u : List ℕ) (i : ℕ) → i ≤ length u → RunAt f u (i + length (list_take_while f (drop i u))) i
runs_from f u i h = record { inside = h; left = refl }

pub runs_start : (f : ℕ → Bool) (u : List ℕ) → RunAt f u (length (list_take_while f u)) 0
runs_start f u = record { inside = zero-le; left = omega arith }

module _ (f : ℕ → Bool) (u : List ℕ) (i : ℕ) {e : ℕ} (h : RunAt f u e i) where
  pub runs_more : i < length u → f (get_or u i 0) ≡ true → RunAt f u e (i + 1)
  runs_more lt t =
      let k : length (list_take_while f (drop i u)) ≡ suc (length (list_take_while f (drop (i + 1) u))) = rw (add-one, drop-cons u i 0) (ap length (run_cons f (get_or u i 0) (drop (suc i) u) t)) in
      record { inside = omega arith; left = omega (arith, k, h.left) }

  pub runs_stop : i < length u → f (get_or u i 0) ≡ false → i ≡ e
  runs_stop lt t =
      let k : length (list_take_while f (drop i u)) ≡ 0 = rw (drop-cons u i 0) (ap length (run_none f (get_or u i 0) (drop (suc i) u) t)) in
      omega (arith, k, h.left)

  pub runs_out : length u ≤ i → i ≡ e
  runs_out le =
      let k : length (list_take_while f (drop i u)) ≡ 0 = rw (drop_of_length-le u le) (ap length (run_nil f)) in
      omega (arith, k, h.left)

-- what holds of n places from i on, and of m after them
pub both_runs : (P : ℕ → Type 0) (i n m : ℕ) → ((j : ℕ) → j < n → P (i + j)) → ((j : ℕ) → j < m → P (i + n + j)) → (j : ℕ) → j < n + m → P (i + j)
both_runs P i n m p q j h = go (ltb j n) refl
  where
    go : (t : Bool) → ltb j n ≡ t → P (i + j)
    go true l = p j (ltb-true j n l)
    go false l =
        let d = ltb-false j n l in
        let z : i + n + (j - n) ≡ i + j = omega arith in
        rw z at (q (j - n) (omega arith))

-- what holds at i and is kept by each of n turns holds after them
pub turns : (P : ℕ → Type 0) (i n : ℕ) → P i → ((j : ℕ) → j < n → P (i + j) → P (i + j + 1)) → P (i + n)
turns P i zero h f = let z : i ≡ i + 0 = omega arith in subst P z h
turns P i (suc n) h f = let z : i + n + 1 ≡ i + suc n = omega arith in subst P z (f n (omega arith) (turns P i n h (λ j q. f j (omega arith))))

-- n bytes that pass, at once
pub runs_on : (f : ℕ → Bool) (u : List ℕ) (i : ℕ) {e : ℕ} → RunAt f u e i → (n : ℕ) → i + n ≤ length u → ((j : ℕ) → j < n → f (get_or u (i + j) 0) ≡ true) → RunAt f u e (i + n)
runs_on f u i {e} h n le t = turns (RunAt f u e) i n h (λ j q g. runs_more f u (i + j) g (omega arith) (t j q))
