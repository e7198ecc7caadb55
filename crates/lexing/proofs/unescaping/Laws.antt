-- Laws of unescaping: what comes out has bounds, and one law for each way through a function.
use Prim.Native.Nat.{ℕ, suc, ◌+◌, ◌-◌, ◌<◌, ◌≤◌}
use mathlib.Core.Path.{◌≡◌, refl, sym, ◌∙◌, ap}
use mathlib.Core.Bool.{Bool, true, false}
use mathlib.Core.List.{List, [], ◌∷◌, ◌++◌, append_assoc, append-nil}
use native.Mathlib.Omega.{arith}
use native.Mathlib.Numerals.{add-one}
use borrow.Author.Tests.{eq-eqb, ne_eqb, le-leb, lt-leb, leb-true, eqb-true, eqb-false}
use lib.Dec.{leb, eqb}
use lib.ListN.{length, drop, get_or, set, length-append, length-drop, drop_of_length-le}
use lib.Seq.{drop-cons, set_at}
use Rattle.lexing.specs.bytes.{quote, backslash}
use Rattle.lexing.specs.unescaping.{lookup, escaped, Unescaped, gives, fault_at, first, unescape_from, escape_from, unescape, into, outcome}
use Rattle.lexing.specs.outcomes.{fitted, Outcome, refused, written, returned, afterwards}
use Rattle.lexing.specs.inner.unescaping.{size_of, PieceAt}
use Rattle.std.specs.Prelude.{Option, Some, None, Ok, Err}

-- a table: its first line, the lines after it, its end
pub found : (y k z : ℕ) (l : List (ℕ × ℕ)) → y ≡ k → Some z ≡ lookup y ((k, z) ∷ l)
unfolding lookup
found y k z l e = rw (eq-eqb y k e, lookup)

pub missed : (y k z : ℕ) (l : List (ℕ × ℕ)) {o : Option ℕ} → (y ≡ k → ⊥) → o ≡ lookup y l → o ≡ lookup y ((k, z) ∷ l)
unfolding lookup
missed y k z l n e = rw (ne_eqb y k n, lookup) e

pub missing : (y : ℕ) → None ≡ lookup y []
unfolding lookup
missing y = refl

-- the byte at the front: a bare quote, a byte that passes, a backslash
module _ (b x : ℕ) (u : List ℕ) where
  bare : x ≡ quote → unescape_from b (x ∷ u) ≡ fault_at b
  unfolding unescape_from
  bare e = rw (eq-eqb x quote e, unescape_from)

  passes : (x ≡ quote → ⊥) → (x ≡ backslash → ⊥) → unescape_from b (x ∷ u) ≡ first x (unescape_from (b + 1) u)
  unfolding unescape_from
  passes q s = rw (ne_eqb x quote q, ne_eqb x backslash s, unescape_from)

  starts : (x ≡ quote → ⊥) → x ≡ backslash → unescape_from b (x ∷ u) ≡ escape_from b u
  unfolding unescape_from
  starts q s = rw (ne_eqb x quote q, eq-eqb x backslash s, unescape_from)

-- the byte after a backslash: no escape, or an escape
bad : (b y : ℕ) (u : List ℕ) → escaped y ≡ None → escape_from b (y ∷ u) ≡ fault_at b
unfolding unescape_from
bad b y u e = rw (e, escape_from)

good : (b y z : ℕ) (u : List ℕ) → escaped y ≡ Some z → escape_from b (y ∷ u) ≡ first z (unescape_from (b + 2) u)
unfolding unescape_from
good b y z u e = rw (e, escape_from)

-- from an offset of a part on: the byte there, and the rest
at_byte : (u : List ℕ) (b : ℕ) → b < length u → drop b u ≡ get_or u b 0 ∷ drop (b + 1) u
at_byte u b h = rw add-one (drop-cons u b 0 h)

-- the piece at an offset, by the tests of the code
module _ (u : List ℕ) (b : ℕ) (h : b < length u) where
  out_is : {o : Unescaped} → unescape_from b (get_or u b 0 ∷ drop (b + 1) u) ≡ o → unescape_from b (drop b u) ≡ o
  out_is e = ap (unescape_from b) (at_byte u b h) ∙ e

  wrong : unescape_from b (get_or u b 0 ∷ drop (b + 1) u) ≡ fault_at b → PieceAt u b None
  wrong e = record { out = out_is e; onward = omega arith; inside = omega arith }

  pub piece_bare : get_or u b 0 ≡ quote → PieceAt u b None
  piece_bare e = wrong (bare b (get_or u b 0) (drop (b + 1) u) e)

  module _ (q : get_or u b 0 ≡ quote → ⊥) where
    pub piece_passes : (get_or u b 0 ≡ backslash → ⊥) → PieceAt u b (Some (get_or u b 0, b + 1))
    piece_passes s = record { out = out_is (passes b (get_or u b 0) (drop (b + 1) u) q s); onward = omega arith; inside = omega arith }

    module _ (s : get_or u b 0 ≡ backslash) where
      starts_at : unescape_from b (get_or u b 0 ∷ drop (b + 1) u) ≡ escape_from b (drop (b + 1) u)
      starts_at = starts b (get_or u b 0) (drop (b + 1) u) q s

      pub piece_lone : length u ≤ b + 1 → PieceAt u b None
      unfolding unescape_from
      piece_lone l = wrong (starts_at ∙ ap (escape_from b) (drop_of_length-le u l))

      module _ (l : b + 1 < length u) where
        -- the byte after the backslash, and the rest
        second : {o : Unescaped} → escape_from b (get_or u (b + 1) 0 ∷ drop (b + 1 + 1) u) ≡ o → unescape_from b (get_or u b 0 ∷ drop (b + 1) u) ≡ o
        second q = starts_at ∙ ap (escape_from b) (at_byte u (b + 1) l) ∙ q

        pub piece_bad : None ≡ escaped (get_or u (b + 1) 0) → PieceAt u b None
        piece_bad e = wrong (second (bad b (get_or u (b + 1) 0) (drop (b + 1 + 1) u) (sym e)))

        pub piece_good : (z : ℕ) → Some z ≡ escaped (get_or u (b + 1) 0) → PieceAt u b (Some (z, b + 1 + 1))
        piece_good z e =
            let g = good b (get_or u (b + 1) 0) z (drop (b + 1 + 1) u) (sym e) in
            let w : b + 2 ≡ b + 1 + 1 = omega arith in
            record {
              out = out_is (second (g ∙ ap (λ (i : ℕ). first z (unescape_from i (drop (b + 1 + 1) u))) w));
              onward = omega arith;
              inside = omega arith;
            }

-- a piece takes a byte or more of the part
pub piece_less : {u : List ℕ} {b z n : ℕ} → PieceAt u b (Some (z, n)) → length u - n < length u - b
piece_less a = omega (arith, a.onward, a.inside)

-- the bytes l, then what comes out after them
unfoldable pub before : List ℕ → Unescaped → Unescaped
before l (gives k) = gives (l ++ k)
before l (fault_at k) = fault_at k

before_nothing : (x : Unescaped) → x ≡ before [] x
unfolding before
before_nothing (gives k) = refl
before_nothing (fault_at k) = refl

before_first : (l : List ℕ) (z : ℕ) (x : Unescaped) → before l (first z x) ≡ before (l ++ (z ∷ [])) x
unfolding before first
before_first l z (gives k) = ap gives (sym (append_assoc l (z ∷ []) k))
before_first l z (fault_at k) = refl

-- the bytes l come out of what is before offset i of the part u
pub record Seen (u : List ℕ) (i : ℕ) (l : List ℕ) : Type 0 where
  pub inside : i ≤ length u
  pub few : length l ≤ i
  pub left : unescape u ≡ before l (unescape_from i (drop i u))

seen_start : (u : List ℕ) → Seen u 0 []
unfolding unescape
seen_start u = record { inside = omega arith; few = omega arith; left = before_nothing (unescape_from 0 u) }

module _ {u : List ℕ} {i : ℕ} {l : List ℕ} (s : Seen u i l) where
  seen_more : {z n : ℕ} → PieceAt u i (Some (z, n)) → Seen u n (l ++ (z ∷ []))
  seen_more {z} {n} a =
      record {
        inside = a.inside;
        few = omega (arith, a.onward, s.few, length-append l (z ∷ []));
        left = s.left ∙ ap (before l) a.out ∙ before_first l z (unescape_from n (drop n u));
      }

  seen_fault : PieceAt u i None → unescape u ≡ fault_at i
  unfolding before
  seen_fault a = s.left ∙ ap (before l) a.out

  seen_end : length u ≤ i → unescape u ≡ gives l
  unfolding before unescape_from
  seen_end h = s.left ∙ ap (λ (v : List ℕ). before l (unescape_from i v)) (drop_of_length-le u h) ∙ ap gives (append-nil l)

-- the first pass: at offset i of u, n bytes have come out
pub record Counting (u : List ℕ) (i n : ℕ) : Type 0 where
  pub so_far : List ℕ
  pub seen : Seen u i so_far
  pub count : n ≡ length so_far

pub counting_start : (u : List ℕ) → Counting u 0 0
counting_start u = record { so_far = []; seen = seen_start u; count = refl }

module _ {u : List ℕ} {i n : ℕ} (c : Counting u i n) where
  pub counting_more : {z j : ℕ} → PieceAt u i (Some (z, j)) → Counting u j (n + 1)
  counting_more {z} a = record { so_far = c.so_far ++ (z ∷ []); seen = seen_more c.seen a; count = omega (arith, c.count, length-append c.so_far (z ∷ [])) }

  pub counting_fault : PieceAt u i None → Err i ≡ size_of (unescape u)
  unfolding size_of
  counting_fault a = sym (ap size_of (seen_fault c.seen a))

  pub counting_end : length u ≤ i → Ok n ≡ size_of (unescape u)
  unfolding size_of
  counting_end h = ap Ok c.count ∙ sym (ap size_of (seen_end c.seen h))

-- nothing is refused: the bytes come out, and m bytes of output hold them
pub record Accepted (m : ℕ) (x : Unescaped) : Type 0 where
  pub bytes : List ℕ
  pub out : x ≡ gives bytes
  pub fits : length bytes ≤ m

accepted : (m : ℕ) (x : Unescaped) → (returned (into m x)).0 ≡ 0 → Accepted m x
unfolding into fitted returned
accepted m (fault_at k) e = absurd (omega arith)
accepted m (gives l) e = go (leb (length l) m) refl
  where
    go : (t : Bool) → leb (length l) m ≡ t → Accepted m (gives l)
    go true q = record { bytes = l; out = refl; fits = leb-true (length l) m q }
    go false q = absurd (let w : (returned (into m (gives l))).0 ≡ 10 = rw (q, fitted) in omega arith)

accepted_into : (m : ℕ) (l : List ℕ) → length l ≤ m → into m (gives l) ≡ written l
unfolding into fitted
accepted_into m l h = rw (le-leb (length l) m h, fitted)

-- what came out so far fits the output
room : (m : ℕ) (l : List ℕ) (x y : Unescaped) → Accepted m x → x ≡ before l y → length l ≤ m
unfolding before
room m l x (gives k) a e = let z : a.bytes ≡ l ++ k = cc in omega (arith, a.fits, ap length z, length-append l k)
room m l x (fault_at k) a e = absurd (let o = a.out in let w : ◌≡◌ {A = ℕ} 0 1 = cc in omega arith)

-- one byte more, after the bytes written
set_next : (l out : List ℕ) (n z : ℕ) → n ≡ length l → length l < length out
    → set (l ++ drop (length l) out) n z ≡ (l ++ (z ∷ [])) ++ drop (length (l ++ (z ∷ []))) out
set_next l out n z e h =
    let w : length (l ++ (z ∷ [])) ≡ suc (length l) = omega (arith, length-append l (z ∷ [])) in
    rw (drop-cons out (length l) 0 h, w, append_assoc) (set_at l (get_or out (length l) 0) (drop (suc (length l)) out) z n (sym e))

-- the second pass: the output holds the bytes that have come out, and then what was there
pub record Writing (u out₀ : List ℕ) (i : ℕ) (out : List ℕ) (n : ℕ) : Type 0 where
  pub counting : Counting u i n
  pub holds : out ≡ counting.so_far ++ drop (length counting.so_far) out₀

module _ (u out₀ : List ℕ) (a : (returned (outcome u (length out₀))).0 ≡ 0) where
  all_fits : Accepted (length out₀) (unescape u)
  unfolding outcome
  all_fits = accepted (length out₀) (unescape u) a

  seen_fits : {i : ℕ} {l : List ℕ} → Seen u i l → length l ≤ length out₀
  seen_fits {i} {l} s = room (length out₀) l (unescape u) (unescape_from i (drop i u)) all_fits s.left

  pub writing_start : Writing u out₀ 0 out₀ 0
  unfolding counting_start
  writing_start = record { counting = counting_start u; holds = refl }

  module _ {i : ℕ} {out : List ℕ} {n : ℕ} (w : Writing u out₀ i out n) where
    pub writing_same : length out ≡ length out₀
    writing_same =
        let l = w.counting.so_far in
        omega (arith, ap length w.holds, length-append l (drop (length l) out₀), length-drop (length l) out₀, seen_fits w.counting.seen)

    pub writing_end : length u ≤ i → out ≡ afterwards (outcome u (length out₀)) out₀
    unfolding outcome afterwards
    writing_end h =
        let s = w.counting.seen in
        let l = w.counting.so_far in
        let e : outcome u (length out₀) ≡ written l = ap (into (length out₀)) (seen_end s h) ∙ accepted_into (length out₀) l (seen_fits s) in
        w.holds ∙ sym (ap (λ (o : Outcome). afterwards o out₀) e)

    pub writing_fault : PieceAt u i None → ⊥
    writing_fault t =
        let f = seen_fault w.counting.seen t in
        let o = all_fits.out in
        let z : ◌≡◌ {A = ℕ} 0 1 = cc in
        omega arith

    module _ {z j : ℕ} (t : PieceAt u i (Some (z, j))) where
      next_fits : length w.counting.so_far < length out₀
      next_fits = omega (arith, seen_fits (seen_more w.counting.seen t), length-append w.counting.so_far (z ∷ []))

      pub writing_fits : n < length out
      writing_fits = omega (arith, next_fits, w.counting.count, writing_same)

      pub writing_more : Writing u out₀ j (set out n z) (n + 1)
      unfolding counting_more
      writing_more =
          record {
            counting = counting_more w.counting t;
            holds = ap (λ (o : List ℕ). set o n z) w.holds ∙ set_next w.counting.so_far out₀ n z w.counting.count next_fits;
          }

-- the outcome, by what the first pass counts
into_fault : (m k : ℕ) (x : Unescaped) → Err k ≡ size_of x → into m x ≡ refused 9 k
unfolding size_of into fitted
into_fault m k (fault_at j) e = let z : k ≡ j = cc in rw z
into_fault m k (gives l) e = absurd (let z : ◌≡◌ {A = ℕ} 0 1 = cc in omega arith)

into_short : (m n : ℕ) (x : Unescaped) → Ok n ≡ size_of x → m < n → into m x ≡ refused 10 n
unfolding size_of into fitted
into_short m n (fault_at j) e h = absurd (let z : ◌≡◌ {A = ℕ} 0 1 = cc in omega arith)
into_short m n (gives l) e h = let z : n ≡ length l = cc in rw (lt-leb (length l) m (omega arith), fitted, z)

into_fits : (m n : ℕ) (x : Unescaped) → Ok n ≡ size_of x → n ≤ m → returned (into m x) ≡ (0, n)
unfolding size_of into fitted returned
into_fits m n (fault_at j) e h = absurd (let z : ◌≡◌ {A = ℕ} 0 1 = cc in omega arith)
into_fits m n (gives l) e h = let z : n ≡ length l = cc in rw (accepted_into m l (omega arith), returned, z)

-- the answer r, and the output as it is left, are those of the definition
abbrev pub Ends : List ℕ → List ℕ → ℕ × ℕ → List ℕ → Type 0
Ends u out r left = (r ≡ returned (outcome u (length out))) × (left ≡ afterwards (outcome u (length out)) out)

module _ (u out : List ℕ) where
  ends_refused : (k v : ℕ) → outcome u (length out) ≡ refused k v → Ends u out (k, v) out
  unfolding returned afterwards
  ends_refused k v o = (sym (ap returned o), sym (ap (λ (x : Outcome). afterwards x out) o))

  pub ends_fault : (k : ℕ) → Err k ≡ size_of (unescape u) → Ends u out (9, k) out
  unfolding outcome
  ends_fault k e = ends_refused 9 k (into_fault (length out) k (unescape u) e)

  module _ (n : ℕ) (e : Ok n ≡ size_of (unescape u)) where
    pub ends_short : length out < n → Ends u out (10, n) out
    unfolding outcome
    ends_short h = ends_refused 10 n (into_short (length out) n (unescape u) e h)

    module _ (h : n ≤ length out) where
      all_written : returned (outcome u (length out)) ≡ (0, n)
      unfolding outcome
      all_written = into_fits (length out) n (unescape u) e h

      pub may_write : (returned (outcome u (length out))).0 ≡ 0
      may_write = ap (λ (r : ℕ × ℕ). r.0) all_written

      pub ends_written : {left : List ℕ} → left ≡ afterwards (outcome u (length out)) out → Ends u out (0, n) left
      ends_written w = (sym all_written, w)

-- bounds: of n bytes from offset b on, no more than n bytes come out, and a fault is among them
Bounded : ℕ → ℕ → Unescaped → Type 0
Bounded b n (gives l) = length l ≤ n
Bounded b n (fault_at k) = (b ≤ k) × (k < b + n)

fault_bounded : (b n : ℕ) → Bounded b (suc n) (fault_at b)
unfolding Bounded
fault_bounded b n = (omega arith, omega arith)

-- a piece of k bytes is before the rest
first_bounded : (b k n m z : ℕ) (x : Unescaped) → 0 < k → m ≡ n + k → Bounded (b + k) n x → Bounded b m (first z x)
unfolding Bounded first
first_bounded b k n m z (gives l) h i e = omega arith
first_bounded b k n m z (fault_at j) h i e = (omega arith, omega arith)

byte_bounded : (b x : ℕ) (u : List ℕ) → Bounded (b + 1) (length u) (unescape_from (b + 1) u) → Bounded b (suc (length u)) (escape_from b u)
    → Bounded b (suc (length u)) (unescape_from b (x ∷ u))
byte_bounded b x u p s = go (eqb x quote) refl (eqb x backslash) refl
  where
    go : (t : Bool) → eqb x quote ≡ t → (t' : Bool) → eqb x backslash ≡ t' → Bounded b (suc (length u)) (unescape_from b (x ∷ u))
    go true q t' q' = rw (bare b x u (eqb-true x quote q)) (fault_bounded b (length u))
    go false q true q' = rw (starts b x u (eqb-false x quote q) (eqb-true x backslash q')) s
    go false q false q' =
        rw (passes b x u (eqb-false x quote q) (eqb-false x backslash q'))
        (first_bounded b 1 (length u) (suc (length u)) x (unescape_from (b + 1) u) (omega arith) (omega arith) p)

escape_bounded : (b y : ℕ) (u : List ℕ) → Bounded (b + 2) (length u) (unescape_from (b + 2) u) → Bounded b (suc (suc (length u))) (escape_from b (y ∷ u))
escape_bounded b y u p = go (escaped y) refl
  where
    go : (o : Option ℕ) → escaped y ≡ o → Bounded b (suc (suc (length u))) (escape_from b (y ∷ u))
    go None q = rw (bad b y u q) (fault_bounded b (suc (length u)))
    go (Some z) q = rw (good b y z u q) (first_bounded b 2 (length u) (suc (suc (length u))) z (unescape_from (b + 2) u) (omega arith) (omega arith) p)

mutual
  unfolding Bounded unescape_from

  from_bounded : (u : List ℕ) (b : ℕ) → Bounded b (length u) (unescape_from b u)
  from_bounded [] b = omega arith
  from_bounded (x ∷ u) b = byte_bounded b x u (from_bounded u (b + 1)) (after_bounded u b)

  after_bounded : (u : List ℕ) (b : ℕ) → Bounded b (suc (length u)) (escape_from b u)
  after_bounded [] b = fault_bounded b 0
  after_bounded (y ∷ u) b = escape_bounded b y u (from_bounded u (b + 2))

-- what comes out is never longer than the part
pub never_longer : (u l : List ℕ) → unescape u ≡ gives l → length l ≤ length u
unfolding Bounded unescape
never_longer u l e = rw e at (from_bounded u 0)

-- a fault is in the part
pub fault_inside : (u : List ℕ) (k : ℕ) → unescape u ≡ fault_at k → k < length u
unfolding Bounded unescape
fault_inside u k e = let h : (0 ≤ k) × (k < 0 + length u) = rw e at (from_bounded u 0) in omega (arith, h.1)
