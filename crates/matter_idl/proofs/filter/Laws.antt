-- Laws of the filter before the search for an id.
use Prim.Native.Nat.{ℕ, ◌+◌, ◌*◌, ◌^◌, ◌/◌, ◌≤◌, ◌<◌}
use mathlib.Core.Path.{◌≡◌, refl, sym, ◌∙◌, ap}
use mathlib.Core.Bool.{true, false, ◌&&◌}
use mathlib.Core.List.{List, [], ◌∷◌, ◌++◌}
use native.Mathlib.Omega.{arith}
use native.Mathlib.Decide.{ℕ_discrete}
use native.Mathlib.Nat.{mul-le-mul}
use lib.Dec.{eqb}
use borrow.Author.Tests.{eqb-true}
use Rattle.lexing.specs.word_sets.{same_bytes}
use Rattle.lexing.proofs.Tests.{and_left, and_right, false_if}
use Rattle.lexing.proofs.word_sets.Laws.{same_eq}
use Rattle.items.specs.records.{Record}
use Rattle.lexing.proofs.Truth.{All}
use Rattle.items.proofs.RecordsFit.{all_append}
use Rattle.matter_idl.specs.demand_3.{bytes_at, is_global, has_global}
use Rattle.matter_idl.specs.inner.bits.{has_bit, BitSet}
use Rattle.matter_idl.specs.inner.filter.{Grown, id_bits, hash_of, position_of, Holds, Added, HoldsId, Filtered}

-- the step from bit to bit
pub steps_small : {h j : ℕ} → h < 2 ^ 32 → j < id_bits → j * (h / 2 ^ 19 * 2 + 1) ≤ 7 * 16384
steps_small {h} {j} l k = let a : j ≤ 7 = omega arith in let b : h / 2 ^ 19 * 2 + 1 ≤ 16384 = omega arith in mul-le-mul a b

-- The bits of a hash.

pub clear_bit : {f : List ℕ} {h j p : ℕ} → Holds f h → j < id_bits → p ≡ position_of h j → has_bit f p ≡ false → ⊥
clear_bit {f} a l e c = let z : true ≡ false = sym (a.each_bit _ l) ∙ (ap (has_bit f) (sym e) ∙ c) in let y : ◌≡◌ {A = ℕ} 0 1 = cc in omega arith

pub grown_same : (f : List ℕ) → Grown f f
grown_same f = record { kept = λ p h. h }

pub grown_on : {f g k : List ℕ} → Grown k g → Grown g f → Grown k f
grown_on a b = record { kept = λ p h. a.kept p (b.kept p h) }

-- a bit that is set leaves the others
set_grown : {f g : List ℕ} {p : ℕ} → BitSet g f p → Grown g f
set_grown {f} {g} {p} b = record { kept = λ q h. go q h (ℕ_discrete q p) }
  where
    go : (q : ℕ) → has_bit f q ≡ true → Dec (q ≡ p) → has_bit g q ≡ true
    go q h (yes e) = rw e b.is
    go q h (no e) = b.others q e ∙ h

-- the first j bits are set
pub record Adding (g f : List ℕ) (h j : ℕ) : Type 0 where
  pub upto : j ≤ id_bits
  pub grown : Grown g f
  pub bits : (i : ℕ) → i < j → has_bit g (position_of h i) ≡ true

pub adding_start : (f : List ℕ) (h : ℕ) → Adding f f h 0
adding_start f h = record { upto = omega arith; grown = grown_same f; bits = λ i l. absurd (omega arith) }

module _ {g f : List ℕ} {h j : ℕ} (a : Adding g f h j) where
  pub adding_more : j < id_bits → {p : ℕ} → p ≡ position_of h j → {k : List ℕ} → BitSet k g p → Adding k f h (j + 1)
  adding_more l e {k} b = record { upto = omega arith; grown = grown_on (set_grown b) a.grown; bits = λ i m. go i m (ℕ_discrete i j) }
    where
      go : (i : ℕ) → i < j + 1 → Dec (i ≡ j) → has_bit k (position_of h i) ≡ true
      go i m (yes y) = rw (y, ← e) b.is
      go i m (no y) = (set_grown b).kept _ (a.bits i (omega arith))

  pub adding_end : id_bits ≤ j → Added g f h
  adding_end l = record { grown = a.grown; holds = record { each_bit = λ i m. a.bits i (omega arith) } }

-- The ids of records.

pub filtered_none : {f : List ℕ} (t : List ℕ) → Filtered f t []
filtered_none t = record { ids = tt }

-- the first of records
pub filtered_front : {f t : List ℕ} (l k : List Record) → Filtered f t (l ++ k) → Filtered f t l
filtered_front {f} {t} l k h = record { ids = go l h.ids }
  where
    go : (l : List Record) → All (HoldsId f t) (l ++ k) → All (HoldsId f t) l
    go [] a = tt
    go (r ∷ l) a = (a.0, go l a.1)

module _ {f g : List ℕ} (w : Grown g f) (t : List ℕ) where
  ids_kept : (l : List Record) → All (HoldsId f t) l → All (HoldsId g t) l
  ids_kept [] h = tt
  ids_kept (r ∷ l) h = (λ e. record { each_bit = λ j m. w.kept _ ((h.0 e).each_bit j m) }, ids_kept l h.1)

  -- one record more
  pub filtered_more : {l : List Record} → Filtered f t l → (r : Record) → HoldsId g t r → Filtered g t (l ++ (r ∷ []))
  filtered_more {l} h r k = record { ids = all_append (HoldsId g t) l (r ∷ []) (ids_kept l h.ids) (k, tt) }

-- an id of which a bit is clear is that of no record
module _ (f t : List ℕ) (k : ℕ) (i : List ℕ) (c : Holds f (hash_of k i) → ⊥) where
  no_hit : (r : Record) → HoldsId f t r → is_global t k i r ≡ false
  unfolding is_global
  no_hit r h = false_if (is_global t k i r) λ e.
      let same = same_bytes i (bytes_at t r.name) in
      let x = and_right (eqb r.place 1) (eqb r.kind k && same) e in
      let p = eqb-true r.place 1 (and_left (eqb r.place 1) (eqb r.kind k && same) e) in
      let q = eqb-true r.kind k (and_left (eqb r.kind k) same x) in
      let s = same_eq i (bytes_at t r.name) (and_right (eqb r.kind k) same x) in
      c (rw (s, ← q) (h p))

  none_found : (l : List Record) → All (HoldsId f t) l → has_global t k i l ≡ false
  unfolding has_global
  none_found [] h = refl
  none_found (r ∷ l) h = rw (no_hit r h.0) (none_found l h.1)

  pub filtered_out : {l : List Record} → Filtered f t l → has_global t k i l ≡ false
  filtered_out {l} h = none_found l h.ids
