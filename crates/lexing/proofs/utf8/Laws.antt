-- Laws of well-formed UTF-8: texts one after the other, moved offsets, where a fault can be; then the laws of the sequences that the code reads.
use mathlib.Core.Path.{◌≡◌, refl, sym, ap, ◌∙◌}
use mathlib.Core.Bool.{Bool, true, false, ◌&&◌, false≢true}
use Rattle.std.specs.Prelude.{Option, None, Some}
use mathlib.Core.List.{List, [], ◌∷◌, ◌++◌}
use mathlib.Core.Logic.{◌⊎◌, inl, inr, ⊎_elim}
use Prim.Native.Nat.{ℕ, zero, suc, ◌+◌, ◌-◌, ◌/◌, ◌≤◌, ◌<◌}
use native.Mathlib.Omega.{arith}
use lib.Count.{count_trailing_zeros, trailing_le}
use lib.Bits.{bit_or, and_le_l, and_le_r, or_add_and}
use lib.ListN.{length, take, drop, get_or, replicate, length-drop, length-take, length-replicate, drop_of_length-le}
use lib.Seq.{drop-cons, drop-drop, take_all}
use borrow.Author.Count.{below_none, below_more}
use borrow.Author.Tests.{le-leb, lt-ltb, ltb-true}
use Rattle.lexing.specs.bytes.{within}
use Rattle.lexing.specs.utf8.{Range, ◌to◌, has, Row, row, table, following, State, between, inside, ill, awaiting, begun, step, run, fault, utf8_error}
use Rattle.lexing.specs.inner.utf8.{fits, size_of, sequence_size, later, Bounds, AsciiAt}
use Rattle.lexing.specs.inner.eights.{pack, bytes_from, failing, is_ascii}
use Rattle.std.proofs.lemmas.List.{get_or-take, get_or-drop}
use Rattle.std.proofs.lemmas.Option.{none-some, same_Some}
use Rattle.lexing.proofs.Tests.{within_of}
use Rattle.lexing.proofs.Scans.{both_runs}
use Rattle.lexing.proofs.eights.Laws.{Bytes, no_bits, passing, some_passing}

-- texts one after the other
run_append : (b : ℕ) (t : State) (u s : List ℕ) → run b t (u ++ s) ≡ run (b + length u) (run b t u) s
unfolding run
run_append b t [] s = let z : b + 0 ≡ b = omega arith in rw z
run_append b t (x ∷ u) s = let z : suc b + length u ≡ b + suc (length u) = omega arith in (rw z at (run_append (suc b) (step b t x) u s))

between_of : (t : State) → fault t ≡ None → t ≡ between
unfolding fault
between_of between e = refl
between_of (inside r rs a) e = let z : ◌≡◌ {A = ℕ} 0 1 = cc in absurd (omega arith)
between_of (ill a) e = let z : ◌≡◌ {A = ℕ} 0 1 = cc in absurd (omega arith)

pub utf8_append : (b : ℕ) (u s : List ℕ) → utf8_error b u ≡ None → utf8_error b (u ++ s) ≡ utf8_error (b + length u) s
unfolding utf8_error
utf8_append b u s e =
    ap fault (run_append b between u s ∙ ap (λ t. run (b + length u) t s) (between_of (run b between u) e))

-- moved offsets
unfoldable pub shift_place : ℕ → Option ℕ → Option ℕ
shift_place d None = None
shift_place d (Some p) = Some (d + p)

unfoldable shifted : ℕ → State → State
shifted d between = between
shifted d (inside r rs a) = inside r rs (d + a)
shifted d (ill a) = ill (d + a)

awaiting_shift : (d a : ℕ) (rs : List Range) → awaiting rs (d + a) ≡ shifted d (awaiting rs a)
unfolding awaiting shifted
awaiting_shift d a [] = refl
awaiting_shift d a (r ∷ rs) = refl

begun_shift : (d a : ℕ) (o : Option (List Range)) → begun o (d + a) ≡ shifted d (begun o a)
unfolding begun shifted
begun_shift d a None = refl
begun_shift d a (Some rs) = awaiting_shift d a rs

step_shift : (d b : ℕ) (t : State) (x : ℕ) → step (d + b) (shifted d t) x ≡ shifted d (step b t x)
unfolding step shifted
step_shift d b between x = begun_shift d b (following table x)
step_shift d b (inside r rs a) x = go (has r x) refl
  where
    go : (z : Bool) → has r x ≡ z → step (d + b) (inside r rs (d + a)) x ≡ shifted d (step b (inside r rs a) x)
    go true e = rw (e, step) (awaiting_shift d a rs)
    go false e = rw (e, step)
step_shift d b (ill a) x = refl

run_shift : (d b : ℕ) (t : State) (u : List ℕ) → run (d + b) (shifted d t) u ≡ shifted d (run b t u)
unfolding run
run_shift d b t [] = refl
run_shift d b t (x ∷ u) =
    let z : suc (d + b) ≡ d + suc b = omega arith in rw (step_shift d b t x, z) (run_shift d (suc b) (step b t x) u)

fault_shift : (d : ℕ) (t : State) → fault (shifted d t) ≡ shift_place d (fault t)
unfolding fault shifted shift_place
fault_shift d between = refl
fault_shift d (inside r rs a) = refl
fault_shift d (ill a) = refl

pub utf8_shift : (d b : ℕ) (u : List ℕ) → utf8_error (d + b) u ≡ shift_place d (utf8_error b u)
unfolding utf8_error shifted
utf8_shift d b u = ap fault (run_shift d b between u) ∙ fault_shift d (run b between u)

-- where a fault can be
awaiting_fault : (rs : List Range) (a p : ℕ) → fault (awaiting rs a) ≡ Some p → p ≡ a
unfolding awaiting fault
awaiting_fault [] a p e = let z : ◌≡◌ {A = ℕ} 0 1 = cc in absurd (omega arith)
awaiting_fault (r ∷ rs) a p e = cc

begun_fault : (o : Option (List Range)) (a p : ℕ) → fault (begun o a) ≡ Some p → p ≡ a
unfolding begun fault
begun_fault None a p e = cc
begun_fault (Some rs) a p e = awaiting_fault rs a p e

step_fault : (b : ℕ) (t : State) (x p : ℕ) → fault (step b t x) ≡ Some p → (fault t ≡ Some p) ⊎ (p ≡ b)
unfolding step fault
step_fault b between x p e = inr (begun_fault (following table x) b p e)
step_fault b (inside r rs a) x p e = inl (go (has r x) refl)
  where
    go : (z : Bool) → has r x ≡ z → Some a ≡ Some p
    go true h = ap Some (sym (awaiting_fault rs a p (rw (h, step) at e)))
    go false h = rw (h, step) at e
step_fault b (ill a) x p e = inl e

run_fault : (b : ℕ) (t : State) (u : List ℕ) (p : ℕ) → fault (run b t u) ≡ Some p → (fault t ≡ Some p) ⊎ ((b ≤ p) × (p < b + length u))
unfolding run
run_fault b t [] p e = inl e
run_fault b t (x ∷ u) p e = ⊎_elim here (λ h. inr (omega arith, omega arith)) (run_fault (suc b) (step b t x) u p e)
  where
    here : fault (step b t x) ≡ Some p → (fault t ≡ Some p) ⊎ ((b ≤ p) × (p < b + length (x ∷ u)))
    here h = ⊎_elim (λ k. inl k) (λ k. inr (omega arith, omega arith)) (step_fault b t x p h)

pub utf8_inside : (b : ℕ) (u : List ℕ) (p : ℕ) → utf8_error b u ≡ Some p → (b ≤ p) × (p < b + length u)
unfolding utf8_error fault
utf8_inside b u p e =
    ⊎_elim (λ h. let z : ◌≡◌ {A = ℕ} 0 1 = cc in absurd (omega arith)) (λ h. h) (run_fault b between u p e)

-- the bytes after the first byte of a sequence
ill_stays : (b a : ℕ) (u : List ℕ) → run b (ill a) u ≡ ill a
unfolding run step
ill_stays b a [] = refl
ill_stays b a (x ∷ u) = ill_stays (suc b) a u

fits_run : (b a : ℕ) (rs : List Range) (u : List ℕ) → fits rs u ≡ true → run b (awaiting rs a) u ≡ run (b + length rs) between (drop (length rs) u)
unfolding fits run awaiting step
fits_run b a [] u e = let z : b + 0 ≡ b = omega arith in rw z
fits_run b a (r ∷ rs) [] e = absurd (false≢true e)
fits_run b a (r ∷ rs) (x ∷ u) e = go (has r x) refl e (fits_run (suc b) a rs u)
  where
    go : (z : Bool) → has r x ≡ z → (z && fits rs u) ≡ true → (fits rs u ≡ true → run (suc b) (awaiting rs a) u ≡ run (suc b + length rs) between (drop (length rs) u)) → run b (inside r rs a) (x ∷ u) ≡ run (b + suc (length rs)) between (drop (length rs) u)
    go true h k ih = let z : suc b + length rs ≡ b + suc (length rs) = omega arith in rw (h, step) (rw z at (ih k))
    go false h k ih = absurd (false≢true k)

fits_ill : (b a : ℕ) (rs : List Range) (u : List ℕ) → fits rs u ≡ false → fault (run b (awaiting rs a) u) ≡ Some a
unfolding fits run awaiting step fault
fits_ill b a [] u e = absurd (false≢true (sym e))
fits_ill b a (r ∷ rs) [] e = refl
fits_ill b a (r ∷ rs) (x ∷ u) e = go (has r x) refl e (fits_ill (suc b) a rs u)
  where
    go : (z : Bool) → has r x ≡ z → (z && fits rs u) ≡ false → (fits rs u ≡ false → fault (run (suc b) (awaiting rs a) u) ≡ Some a) → fault (run b (inside r rs a) (x ∷ u)) ≡ Some a
    go true h k ih = rw (h, step) (ih k)
    go false h k ih = rw (h, step) (rw (ill_stays (suc b) a u))

fits_length : (rs : List Range) (u : List ℕ) → fits rs u ≡ true → length rs ≤ length u
unfolding fits
fits_length [] u e = omega arith
fits_length (r ∷ rs) [] e = absurd (false≢true e)
fits_length (r ∷ rs) (x ∷ u) e = go (has r x) e (fits_length rs u)
  where
    go : (z : Bool) → (z && fits rs u) ≡ true → (fits rs u ≡ true → length rs ≤ length u) → suc (length rs) ≤ suc (length u)
    go true k ih = let h : length rs ≤ length u = ih k in omega arith
    go false k ih = absurd (false≢true k)

-- a sequence by its size
size_no : (rs : List Range) (u : List ℕ) → fits rs u ≡ false → None ≡ size_of (Some rs) u
unfolding size_of
size_no rs u e = rw (e, size_of)

size_yes : (rs : List Range) (u : List ℕ) → fits rs u ≡ true → Some (suc (length rs)) ≡ size_of (Some rs) u
unfolding size_of
size_yes rs u e = rw (e, size_of)

size_ill : (b a : ℕ) (o : Option (List Range)) (u : List ℕ) → size_of o u ≡ None → fault (run b (begun o a) u) ≡ Some a
unfolding begun fault
size_ill b a None u e = rw (ill_stays b a u)
size_ill b a (Some rs) u e = go (fits rs u) refl
  where
    go : (z : Bool) → fits rs u ≡ z → fault (run b (awaiting rs a) u) ≡ Some a
    go true h = absurd (let z : Some (suc (length rs)) ≡ None = size_yes rs u h ∙ e in none-some _ (sym z))
    go false h = fits_ill b a rs u h

size_run : (b a n : ℕ) (o : Option (List Range)) (u : List ℕ) → size_of o u ≡ Some (suc n) → (n ≤ length u) × (run b (begun o a) u ≡ run (b + n) between (drop n u))
unfolding begun size_of
size_run b a n None u e = absurd (none-some _ e)
size_run b a n (Some rs) u e = go (fits rs u) refl
  where
    go : (z : Bool) → fits rs u ≡ z → (n ≤ length u) × (run b (awaiting rs a) u ≡ run (b + n) between (drop n u))
    go true h =
        let z : n ≡ length rs = omega (arith, same_Some _ _ (size_yes rs u h ∙ e)) in
        (omega (arith, fits_length rs u h), rw z (fits_run b a rs u h))
    go false h = absurd (none-some _ (size_no rs u h ∙ e))

sequence_ill : (b : ℕ) (u : List ℕ) → 0 < length u → sequence_size u ≡ None → utf8_error b u ≡ Some b
unfolding utf8_error run step sequence_size
sequence_ill b [] h e = absurd (omega arith)
sequence_ill b (x ∷ u) h e = size_ill (suc b) b (following table x) u e

sequence_more : (b n : ℕ) (u : List ℕ) → sequence_size u ≡ Some (suc n) → (n < length u) × (utf8_error b u ≡ utf8_error (b + suc n) (drop (suc n) u))
unfolding utf8_error run step sequence_size
sequence_more b n [] e = absurd (none-some _ e)
sequence_more b n (x ∷ u) e =
    let m = size_run (suc b) b n (following table x) u e in
    let z : suc b + n ≡ b + suc n = omega arith in
    (omega (arith, m.0), ap fault (rw z at m.1))

-- the rows of the table, one after the other
module _ (lo hi x : ℕ) (rs : List Range) (rows : List Row) where
  pub this_row : lo ≤ x → x ≤ hi → following (row (lo to hi) rs ∷ rows) x ≡ Some rs
  unfolding following has within
  this_row a b = rw (le-leb lo x a, le-leb x hi b, following)

  pub next_row : (lo ≤ x → x ≤ hi → ⊥) → {o : Option (List Range)} → following rows x ≡ o → following (row (lo to hi) rs ∷ rows) x ≡ o
  unfolding following has
  next_row f {o} h = go (within lo hi x) refl
    where
      go : (t : Bool) → within lo hi x ≡ t → following (row (lo to hi) rs ∷ rows) x ≡ o
      go true e = let w = within_of lo hi x e in absurd (f (omega (arith, w)) (omega (arith, w)))
      go false e = rw (e, following) h

pub no_row : (x : ℕ) → following [] x ≡ None
unfolding following
no_row x = refl

ascii_row : (x : ℕ) → x < 0x80 → following table x ≡ Some []
unfolding table
ascii_row x h = this_row 0 0x7f x [] _ (omega arith) (omega arith)

pub sequence_by : (u : List ℕ) (o : Option (List Range)) → 0 < length u → following table (get_or u 0 0) ≡ o → size_of o (drop 1 u) ≡ sequence_size u
unfolding sequence_size
sequence_by [] o h e = absurd (omega arith)
sequence_by (x ∷ u) o h e = ap (λ p. size_of p u) (sym e)

pub sequence_none : (u : List ℕ) → 0 < length u → following table (get_or u 0 0) ≡ None → None ≡ sequence_size u
unfolding size_of
sequence_none u h e = sequence_by u None h e

-- a sequence has bytes
no_zero : (u : List ℕ) → sequence_size u ≡ Some 0 → ⊥
unfolding sequence_size size_of
no_zero [] e = none-some _ e
no_zero (x ∷ u) e = go (following table x) refl
  where
    go : (o : Option (List Range)) → following table x ≡ o → ⊥
    go None f = none-some _ (rw f at e)
    go (Some rs) f = by (fits rs u) refl
      where
        by : (t : Bool) → fits rs u ≡ t → ⊥
        by true g = omega (arith, same_Some _ _ (size_yes rs u g ∙ rw f at e))
        by false g = none-some _ (size_no rs u g ∙ rw f at e)

pub positive : (n : ℕ) (u : List ℕ) → Some n ≡ sequence_size u → 0 < n
positive zero u e = absurd (no_zero u (sym e))
positive (suc n) u e = omega arith

-- the first i bytes are whole characters
pub record Passed (b : ℕ) (u : List ℕ) (i : ℕ) : Type 0 where
  pub reach : i ≤ length u
  pub left : utf8_error b u ≡ utf8_error (b + i) (drop i u)

pub passed_start : (b : ℕ) (u : List ℕ) → Passed b u 0
passed_start b u = record { reach = omega arith; left = let z : b + 0 ≡ b = omega arith in rw z }

rest_all : (u : List ℕ) (i : ℕ) → take (length u - i) (drop i u) ≡ drop i u
rest_all u i = take_all (length u - i) (drop i u) (omega (arith, length-drop i u))

module _ (b : ℕ) (u : List ℕ) (i : ℕ) (h : Passed b u i) where
  pub passed_more : (n : ℕ) → Some n ≡ sequence_size (take (length u - i) (drop i u)) → Passed b u (i + n)
  passed_more zero e = absurd (no_zero (take (length u - i) (drop i u)) (sym e))
  passed_more (suc n) e =
      let m = sequence_more (b + i) n (drop i u) (rw rest_all at (sym e)) in
      let z : b + i + suc n ≡ b + (i + suc n) = omega arith in
      record {
        reach = omega (arith, m.0, length-drop i u);
        left = h.left ∙ (rw (z, drop-drop (suc n) i u) at m.1);
      }

  pub passed_end : length u ≤ i → None ≡ utf8_error b u
  unfolding utf8_error run fault
  passed_end e = sym (h.left ∙ rw (drop_of_length-le u e))

  module _ (lt : i < length u) where
    rest_cons : take (length u - i) (drop i u) ≡ get_or u i 0 ∷ drop (suc i) u
    rest_cons = rest_all u i ∙ drop-cons u i 0 lt

    passed_ascii : get_or u i 0 < 0x80 → Passed b u (i + 1)
    unfolding sequence_size size_of fits
    passed_ascii k = passed_more 1 (rw (rest_cons, ascii_row _ k))

    pub passed_ill : None ≡ sequence_size (take (length u - i) (drop i u)) → Some (b + i) ≡ utf8_error b u
    passed_ill e = sym (h.left ∙ sequence_ill (b + i) (drop i u) (omega (arith, length-drop i u)) (rw rest_all at (sym e)))

    pub rest_first : 0x80 ≤ get_or u i 0 → (0 < length (take (length u - i) (drop i u))) × (0x80 ≤ get_or (take (length u - i) (drop i u)) 0 0)
    rest_first k = rw rest_cons (omega arith, k)

-- ASCII bytes, any number of them
passed_each : (b : ℕ) (u : List ℕ) (i n : ℕ) → Passed b u i → i + n ≤ length u → ((j : ℕ) → j < n → get_or u (i + j) 0 < 0x80) → Passed b u (i + n)
passed_each b u i zero h l k = let z : i + 0 ≡ i = omega arith in rw z h
passed_each b u i (suc n) h l k =
    let z : i + n + 1 ≡ i + suc n = omega arith in
    rw z at (passed_ascii b u (i + n) (passed_each b u i n h (omega arith) (λ j q. k j (omega arith))) (omega arith) (k n (omega arith)))

pub passed_run : (b : ℕ) (u : List ℕ) (i : ℕ) → Passed b u i → (n : ℕ) → AsciiAt u i n → Passed b u (i + n)
passed_run b u i h n a = passed_each b u i n h a.inside a.ascii

pub ascii_one : (u : List ℕ) (i : ℕ) → i < length u → get_or u i 0 < 0x80 → AsciiAt u i 1
ascii_one u i lt k = record { onward = omega arith; inside = omega arith; ascii = below_more _ 0 (below_none _) (let z : i + 0 ≡ i = omega arith in rw z k) }

-- numbers joined bit by bit make no smaller one
or_left : (x y : ℕ) → x ≤ bit_or x y
or_left x y = omega (arith, or_add_and x y, and_le_r x y)

or_right : (x y : ℕ) → y ≤ bit_or x y
or_right x y = omega (arith, or_add_and x y, and_le_l x y)

pub or_none : {u : List ℕ} {i : ℕ} → Bounds 0 u i 0
or_none = record { each = below_none _ }

-- one more byte after a run
pub or_more : {r : ℕ} {u : List ℕ} {i n : ℕ} → Bounds r u i n → Bounds (bit_or r (get_or u (i + n) 0)) u i (n + 1)
or_more {r} {u} {i} {n} p = record { each = below_more _ n (λ j h. omega (arith, p.each j h, or_left r (get_or u (i + n) 0))) (or_right r (get_or u (i + n) 0)) }

-- two runs of bytes, the second after the first
or_join : (n m : ℕ) {r s : ℕ} {u : List ℕ} {i : ℕ} → Bounds r u i n → Bounds s u (i + n) m → Bounds (bit_or r s) u i (n + m)
or_join n m {r} {s} {u} {i} p q = record { each = both_runs (λ k. get_or u k 0 ≤ bit_or r s) i n m (λ j h. omega (arith, p.each j h, or_left r s)) (λ j h. omega (arith, q.each j h, or_right r s)) }

-- four runs of n bytes
pub or_four : (n : ℕ) {r s t v : ℕ} {u : List ℕ} {i : ℕ} → Bounds r u i n → Bounds s u (i + n) n → Bounds t u (i + (n + n)) n → Bounds v u (i + (n + n + n)) n → Bounds (bit_or (bit_or (bit_or r s) t) v) u i (n + n + n + n)
or_four n p q a b = or_join (n + n + n) n (or_join (n + n) n (or_join n n p q) a) b

-- an ASCII byte with n others after it
pub ascii_run : (n : ℕ) {u : List ℕ} {i r : ℕ} → get_or u i 0 < 0x80 → i + (n + 1) ≤ length u → Bounds r u (i + 1) n → r < 0x80 → AsciiAt u i (n + 1)
ascii_run n {u} {i} {r} k l p h = record { onward = omega arith; inside = l; ascii = each }
  where
    each : (j : ℕ) → j < n + 1 → get_or u (i + j) 0 < 0x80
    each zero q = let z : i + 0 ≡ i = omega arith in rw z k
    each (suc j) q = let z : i + 1 + j ≡ i + suc j = omega arith in omega (arith, rw z at (p.each j (omega arith)))

-- of eight bytes those before the first that is not ASCII
module _ {u : List ℕ} {i w m : ℕ} (k : get_or u i 0 < 0x80) (l : i + 8 ≤ length u) (b : Bytes (λ j. get_or u j 0)) (e : w ≡ pack 8 (bytes_from u i)) (d : m ≡ failing is_ascii w) where
  pub ascii_some : AsciiAt u i (count_trailing_zeros 64 m / 8)
  ascii_some = record {
    onward = some_passing is_ascii u i w m b e d (let z : i + 0 ≡ i = omega arith in rw z (lt-ltb _ _ k));
    inside = omega (arith, trailing_le 64 m);
    ascii = λ j h. ltb-true _ _ (passing is_ascii u i w m b e d j h);
  }

  pub ascii_eight : m ≡ 0 → AsciiAt u i 8
  ascii_eight z = rw (no_bits z) at ascii_some

-- the bytes after the second: those below i are in their ranges
module _ (u : List ℕ) (n lo hi : ℕ) where
  pub record Tails (i : ℕ) : Type 0 where
    pub upto : i ≤ n
    pub long : n ≤ length u
    pub two : 2 ≤ n
    pub left : fits (later n lo hi) (drop 1 u) ≡ fits (replicate (n - i) (0x80 to 0xbf)) (drop i u)

later_length : (n lo hi : ℕ) → 2 ≤ n → suc (length (later n lo hi)) ≡ n
unfolding later
later_length n lo hi h = rw length-replicate (omega arith)

fits_at : (lo hi : ℕ) (rs : List Range) (u : List ℕ) (i : ℕ) → i < length u → fits (lo to hi ∷ rs) (drop i u) ≡ (within lo hi (get_or u i 0) && fits rs (drop (suc i) u))
unfolding fits has
fits_at lo hi rs u i h = rw (drop-cons u i 0 h)

replicate_less : (n i : ℕ) (r : Range) → i < n → replicate (n - i) r ≡ r ∷ replicate (n - (i + 1)) r
replicate_less n i r h = let z : n - i ≡ suc (n - (i + 1)) = omega arith in rw z

pub size_cut : (u : List ℕ) (n lo hi : ℕ) → 2 ≤ n → length u < n → None ≡ size_of (Some (later n lo hi)) (drop 1 u)
size_cut u n lo hi h lt = go (fits (later n lo hi) (drop 1 u)) refl
  where
    go : (z : Bool) → fits (later n lo hi) (drop 1 u) ≡ z → None ≡ size_of (Some (later n lo hi)) (drop 1 u)
    go true e = absurd (omega (arith, fits_length _ _ e, later_length n lo hi h, length-drop 1 u))
    go false e = size_no _ _ e

module _ (u : List ℕ) (n lo hi : ℕ) (h : 2 ≤ n) (k : n ≤ length u) where
  second : fits (later n lo hi) (drop 1 u) ≡ (within lo hi (get_or u 1 0) && fits (replicate (n - 2) (0x80 to 0xbf)) (drop 2 u))
  unfolding later
  second = fits_at lo hi (replicate (n - 2) (0x80 to 0xbf)) u 1 (omega arith)

  pub second_in : within lo hi (get_or u 1 0) ≡ true → Tails u n lo hi 2
  second_in e = record { upto = h; long = k; two = h; left = second ∙ rw e }

  pub second_out : within lo hi (get_or u 1 0) ≡ false → None ≡ size_of (Some (later n lo hi)) (drop 1 u)
  second_out e = size_no _ _ (second ∙ rw e)

-- k of the bytes after the second have been looked at
module _ (u : List ℕ) (n lo hi k : ℕ) (h : Tails u n lo hi (2 + k)) where
  module _ (lt : k < length (take (n - 2) (drop 2 u))) where
    item : get_or (take (n - 2) (drop 2 u)) k 0 ≡ get_or u (2 + k) 0
    item = get_or-take (n - 2) (drop 2 u) k 0 (omega (arith, length-take (n - 2) (drop 2 u))) ∙ get_or-drop 2 u k 0

    next : fits (later n lo hi) (drop 1 u) ≡ (within 0x80 0xbf (get_or (take (n - 2) (drop 2 u)) k 0) && fits (replicate (n - (2 + k + 1)) (0x80 to 0xbf)) (drop (suc (2 + k)) u))
    next =
        let z : 2 + k < n = omega (arith, length-take (n - 2) (drop 2 u)) in
        rw item (h.left ∙ rw (replicate_less n (2 + k) (0x80 to 0xbf) z) (fits_at 0x80 0xbf _ u (2 + k) (omega (arith, h.long))))

    pub tail_in : within 0x80 0xbf (get_or (take (n - 2) (drop 2 u)) k 0) ≡ true → Tails u n lo hi (2 + (k + 1))
    tail_in e =
        let z : suc (2 + k) ≡ 2 + (k + 1) = omega arith in
        let y : 2 + k + 1 ≡ 2 + (k + 1) = omega arith in
        let q : fits (later n lo hi) (drop 1 u) ≡ fits (replicate (n - (2 + k + 1)) (0x80 to 0xbf)) (drop (suc (2 + k)) u) = next ∙ rw e in
        record { upto = omega (arith, length-take (n - 2) (drop 2 u)); long = h.long; two = h.two; left = rw (z, y) at q }

    pub tail_out : within 0x80 0xbf (get_or (take (n - 2) (drop 2 u)) k 0) ≡ false → None ≡ size_of (Some (later n lo hi)) (drop 1 u)
    tail_out e = size_no _ _ (next ∙ rw e)

  pub tails_end : length (take (n - 2) (drop 2 u)) ≤ k → Some n ≡ size_of (Some (later n lo hi)) (drop 1 u)
  unfolding fits
  tails_end le =
      let z : n - (2 + k) ≡ 0 = omega (arith, h.long, length-take (n - 2) (drop 2 u), length-drop 2 u) in
      ap Some (sym (later_length n lo hi h.two)) ∙ size_yes _ _ (h.left ∙ rw z)
