-- Laws of the functions of hoisting.
use Prim.Native.Nat.{ℕ, ◌+◌, ◌*◌, ◌/◌, ◌^◌, ◌≤◌, ◌<◌}
use mathlib.Core.Path.{◌≡◌, refl, sym, ◌∙◌, ap, subst}
use mathlib.Core.Bool.{Bool, true, false, ◌&&◌, ◌||◌}
use mathlib.Core.List.{List, [], ◌∷◌}
use native.Mathlib.Omega.{arith}
use native.Mathlib.Decide.{ℕ_discrete}
use lib.Dec.{eqb}
use lib.ListN.{length}
use borrow.Author.Tests.{eqb-true, eq-eqb, ne_eqb}
use Rattle.std.specs.Cmp.Lexicographic.{pointwise}
use Rattle.lexing.specs.word_sets.{same_bytes}
use Rattle.lexing.proofs.Tests.{and_left}
use Rattle.items.specs.records.{Record}
use Rattle.items.specs.layout.{offset, size, kind_field, place_field, layout, words_of_kind, text_limit}
use Rattle.items.specs.stored.{value_at}
use Rattle.items.proofs.RecordsFit.{layout_fits}
use Rattle.items.proofs.ReadBack.{RecordAt, kind_is, place_is, offset_is, length_is}
use Rattle.matter_idl.specs.inner.hoisting.{name_at, hits_at, Catalogue, flags_shared, is_unmarked, MayBeType}
use Rattle.matter_idl.specs.demand_3.{bytes_at, is_global, has_global}
use Rattle.matter_idl.proofs.hoisting.Walk.{Walk, walk_at, walk_next, Standing, stands_room, stands_inside, walk_stands, walk_over}
use Rattle.matter_idl.proofs.hoisting.Search.{and_nil}

-- what `==` says of two slices
same_is : (u v : List ℕ) → pointwise eqb u v ≡ same_bytes u v
unfolding same_bytes
same_is [] [] = refl
same_is [] (y ∷ v) = refl
same_is (x ∷ u) [] = refl
same_is (x ∷ u) (y ∷ v) = ap (λ z. eqb x y && z) (same_is u v)

-- the tests of a record, in the code's order
module _ (t : List ℕ) (k : ℕ) (i out : List ℕ) (p : ℕ) where
  pub hits_no_place : (value_at layout place_field out p ≡ 1 → ⊥) → false ≡ hits_at t k i out p
  unfolding hits_at
  hits_no_place d = rw (ne_eqb _ _ d) refl

  pub hits_no_kind : (value_at layout kind_field out p ≡ k → ⊥) → false ≡ hits_at t k i out p
  unfolding hits_at
  hits_no_kind d = rw (ne_eqb _ _ d) (sym (and_nil (eqb (value_at layout place_field out p) 1)))

  pub hits_same : value_at layout place_field out p ≡ 1 → value_at layout kind_field out p ≡ k → {r : Bool} → r ≡ pointwise eqb i (name_at t out p) → r ≡ hits_at t k i out p
  unfolding hits_at
  hits_same x y e = rw (eq-eqb _ _ x, eq-eqb _ _ y) (e ∙ same_is i (name_at t out p))

-- the test of a record that is in a buffer
pub hits_is : (t : List ℕ) (k : ℕ) (i : List ℕ) → length t ≤ text_limit → {out : List ℕ} {p : ℕ} (s : RecordAt layout (length t) out p) → hits_at t k i out p ≡ is_global t k i s.of
unfolding hits_at is_global bytes_at offset size
hits_is t k i limit s = let F = layout_fits (length t) limit in rw (place_is F s, kind_is F s, offset_is F s, length_is F s) refl

-- the tests of a shared type without mark, in the code's order
module _ (k p f : ℕ) where
  pub unmarked_placed : (p ≡ 0 → ⊥) → false ≡ is_unmarked k p f
  unfolding is_unmarked
  unmarked_placed d = rw (ne_eqb _ _ d) refl

  pub unmarked_of : {j : ℕ} {b : Bool} → p ≡ 0 → k ≡ j → b ≡ flags_shared j f → b ≡ is_unmarked k p f
  unfolding is_unmarked
  unmarked_of z e h = rw (z, e) h

  -- enums and bitmaps
  pub unmarked_choice : p ≡ 0 → 2 ≤ k → k ≤ 3 → {b : Bool} → b ≡ eqb (f / 2 ^ 6) 1 → b ≡ is_unmarked k p f
  unfolding flags_shared
  unmarked_choice z l m {b} h = go (ℕ_discrete k 2)
    where
      go : Dec (k ≡ 2) → b ≡ is_unmarked k p f
      go (yes e) = unmarked_of z e h
      go (no e) = unmarked_of {j = 3} z (omega arith) h

  pub unmarked_other : p ≡ 0 → (k ≡ 5 → ⊥) → (k ≡ 2 → ⊥) → (k ≡ 3 → ⊥) → false ≡ is_unmarked k p f
  unfolding is_unmarked flags_shared
  unmarked_other z a b c = rw (z, flags_shared, ne_eqb k 5 a, ne_eqb k 2 b, ne_eqb k 3 c) refl

  pub unmarked_place : is_unmarked k p f ≡ true → p ≡ 0
  unfolding is_unmarked
  unmarked_place h = eqb-true p 0 (and_left (eqb p 0) (flags_shared k f) h)

-- a record that can be none of a type, by its kind and its place
module _ (r : Bool) (k p : ℕ) (h : MayBeType r k p) (e : r ≡ false) where
  none_of : MayBeType false k p
  none_of = subst (λ (b : Bool). MayBeType b k p) e h

  pub other_placed : p ≡ 0
  other_placed = none_of.0

  pub other_unmarked : (f : ℕ) → false ≡ is_unmarked k p f
  other_unmarked f = unmarked_other k p f none_of.0 none_of.1.0 none_of.1.1.0 none_of.1.1.1

-- the search: no record before p is_global
module _ (t : List ℕ) (k : ℕ) (i : List ℕ) {out : List ℕ} {end : ℕ} where
  pub record HeldAt (c : Catalogue (length t) out end) (p : ℕ) : Type 0 where
    pub front : List ℕ
    pub left : List Record
    pub walk : Walk (length t) front left c.tail out p end
    pub same : has_global t k i c.records ≡ has_global t k i left

  module _ (c : Catalogue (length t) out end) where
    module _ {p : ℕ} (h : HeldAt c p) where
      pub held_end : end ≤ p → false ≡ has_global t k i c.records
      unfolding has_global
      held_end e = sym (h.same ∙ ap (has_global t k i) (walk_over h.left h.walk e))

      module _ (e : p < end) where
        stands : Standing (λ l. has_global t k i c.records ≡ has_global t k i l) (length t) h.front c.tail out p end
        stands = walk_stands _ h.left h.walk e h.same

        pub held_room : p + 8 ≤ length out
        held_room = stands_room stands

        module _ (limit : length t ≤ text_limit) where
          pub held_there : RecordAt layout (length t) out p
          held_there = walk_at stands.walk limit

          module _ {n : ℕ} (z : n ≡ words_of_kind layout (value_at layout kind_field out p)) where
            words_are : n ≡ words_of_kind layout stands.this.kind
            words_are = z ∙ ap (words_of_kind layout) (kind_is (layout_fits (length t) limit) (walk_at stands.walk limit))

            pub held_inside : (p < p + 8 * n) × (p + 8 * n ≤ end)
            held_inside = stands_inside stands words_are

          module _ {a : Bool} (d : a ≡ hits_at t k i out p) where
            told : is_global t k i stands.this ≡ a
            told = sym (d ∙ hits_is t k i limit (walk_at stands.walk limit))

            pub held_yes : a ≡ true → true ≡ has_global t k i c.records
            unfolding has_global
            held_yes y = sym (stands.holds ∙ ap (λ x. x || has_global t k i stands.rest) (told ∙ y))

            pub held_more : a ≡ false → {n : ℕ} → n ≡ words_of_kind layout (value_at layout kind_field out p) → HeldAt c (p + 8 * n)
            unfolding has_global
            held_more y z = rw (words_are z) (record { front = _; left = stands.rest; walk = walk_next stands.walk; same = stands.holds ∙ ap (λ x. x || has_global t k i stands.rest) (told ∙ y) })

-- the loop: whichever records are there
abbrev pub Searching : (t out : List ℕ) → (end k : ℕ) → (i : List ℕ) → (p : ℕ) → Type 0
Searching t out end k i p = (c : Catalogue (length t) out end) → HeldAt t k i c p
