-- The records of an item are marked in their buffer, one after the other.
use Prim.Native.Nat.{ℕ, ◌+◌, ◌*◌, ◌^◌, ◌≤◌, ◌<◌}
use mathlib.Core.Path.{◌≡◌, refl, sym, ◌∙◌, ap, subst}
use mathlib.Core.Bool.{Bool, true, false}
use mathlib.Core.List.{List, [], ◌∷◌, ◌++◌, map, map-append, append_assoc, append-nil}
use native.Mathlib.Omega.{arith}
use lib.Dec.{lit<}
use lib.ListN.{length, drop, get_or, length-append}
use lib.Seq.{take_at, drop-append-add, drop_at}
use Rattle.lexing.specs.buffers.{each, big_endian, words_bytes, put}
use Rattle.lexing.proofs.buffers.Laws.{each_one, big_endian_length}
use Rattle.items.specs.clusters.{Member, revision, bitmap, enum, struct, attribute, command, event}
use Rattle.items.specs.items.{Item}
use Rattle.items.specs.records.{Record, item_records}
use Rattle.items.specs.layout.{packed, from_top, total, offset, size, kind_field, place_field, layout, first_words, record_words, catalogue_words, words_of_kind, catalogue_bytes, word_count, text_limit}
use Rattle.items.specs.stored.{word_at, field_number, same_field, below, value_at, placed}
use Rattle.items.specs.answers.items.{unhoisted_item}
use Rattle.lexing.proofs.Truth.{All}
use Rattle.items.proofs.Truth.{ItemTrue}
use Rattle.items.proofs.RecordWords.{catalogue_bytes_append, catalogue_bytes_length, catalogue_bytes_none}
use Rattle.items.proofs.RecordsFit.{RecordFits, LayoutFits, layout_fits, item_fits, all_append}
use Rattle.items.proofs.ReadBack.{RecordAt, record_there, kind_is, place_is, flags_are, offset_is, length_is}
use Rattle.matter_idl.specs.hoisting.{Tables, no_ids, held, mark, place_by, after_item, hoisted}
use Rattle.matter_idl.specs.demand_3.{bytes_at, has_global, with_place}
use Rattle.matter_idl.specs.inner.filter.{Grown, hash_of, Holds, HoldsId, Filtered}
use Rattle.matter_idl.specs.inner.hoisting.{name_at, hash_at, is_unmarked, unmarked_at, mark_after, new_place, marked, Catalogue, Marking, Marked, MarkedTo, Unhoisted, Hoisted}
use Rattle.matter_idl.proofs.filter.Laws.{filtered_front, filtered_more}
use Rattle.matter_idl.proofs.hoisting.Walk.{Walk, word_count_one, record_some, walk_length, walk_at, walk_bytes, walk_after, Standing, stands_inside, walk_stands, walk_over}
use Rattle.matter_idl.proofs.hoisting.Marks.{marking}
use Rattle.matter_idl.proofs.hoisting.Laws.{unmarked_place}

-- a mark below 4 leaves a record as it was, but for its place
placed_fits : {n : ℕ} (q : ℕ) → q < 2 ^ 2 → (r : Record) → RecordFits n r → RecordFits n (with_place q r)
unfolding with_place
placed_fits q z r h = record { kind_known = h.kind_known; place_fits = z; maturity_fits = h.maturity_fits; doc_fits = h.doc_fits; flags_fit = h.flags_fit; flags_width = h.flags_width; name_inside = h.name_inside; first_fits = h.first_fits; second_fits = h.second_fits; further_fit = h.further_fit; further_count = h.further_count }

-- the first word of a record, and the bytes after it
abbrev first_word : Record → ℕ
first_word r = packed 0 (get_or (first_words layout r) 0 [])

abbrev after_first : Record → List ℕ
after_first r = words_bytes (drop 1 (record_words layout r))

first_bytes : (r : Record) → catalogue_bytes layout (r ∷ []) ≡ big_endian 8 (first_word r) ++ after_first r
unfolding catalogue_bytes catalogue_words words_bytes each record_words layout
first_bytes r = ap words_bytes (each_one (record_words layout) r)

first_at : {n : ℕ} {out : List ℕ} {p : ℕ} (s : RecordAt layout n out p) → word_at out p ≡ first_word s.of
unfolding record_words layout
first_at s = s.words.0

-- a place changes the first word alone
placed_word : (q : ℕ) (r : Record) → r.place ≡ 0 → first_word (with_place q r) ≡ first_word r + q * 2 ^ 54
unfolding layout packed with_place
placed_word q r h = omega (arith, h)

placed_after : (q : ℕ) (r : Record) → after_first (with_place q r) ≡ after_first r
unfolding record_words layout with_place
placed_after q r = refl

two_or_one : (b : Bool) → elim b [ true ↦ 2 | false ↦ 1 ] < 2 ^ 2
two_or_one true = lit< tt
two_or_one false = lit< tt

mark_small : (t : List ℕ) (b : List Record) (r : Record) → r.place < 2 ^ 2 → new_place t b r < 2 ^ 2
unfolding new_place mark_after
mark_small t b r h = go (is_unmarked r.kind r.place (from_top 7 r.flags))
  where
    go : (x : Bool) → elim x [ true ↦ elim (has_global t r.kind (bytes_at t r.name) b) [ true ↦ 2 | false ↦ 1 ] | false ↦ r.place ] < 2 ^ 2
    go true = two_or_one (has_global t r.kind (bytes_at t r.name) b)
    go false = h

marked_fits : {n : ℕ} (t : List ℕ) (b : List Record) (r : Record) → RecordFits n r → RecordFits n (marked t b r)
unfolding marked
marked_fits t b r h = placed_fits (new_place t b r) (mark_small t b r h.place_fits) r h

marked_kept : (t : List ℕ) (b : List Record) (r : Record) → is_unmarked r.kind r.place (from_top 7 r.flags) ≡ false → marked t b r ≡ r
unfolding marked new_place with_place
marked_kept t b r e = ap (λ (z : Bool). with_place (elim z [ true ↦ mark_after t b r.kind r.name | false ↦ r.place ]) r) e

marked_set : (t : List ℕ) (b : List Record) (r : Record) {q : ℕ} → is_unmarked r.kind r.place (from_top 7 r.flags) ≡ true → mark_after t b r.kind r.name ≡ q → marked t b r ≡ with_place q r
unfolding marked new_place
marked_set t b r e f = ap (λ (z : Bool). with_place (elim z [ true ↦ mark_after t b r.kind r.name | false ↦ r.place ]) r) e ∙ ap (λ (q : ℕ). with_place q r) f

-- it has as many words
marked_words : {n : ℕ} (t : List ℕ) (b : List Record) (r : Record) → RecordFits n r → word_count layout (marked t b r ∷ []) ≡ words_of_kind layout r.kind
unfolding marked with_place
marked_words t b r h = word_count_one (marked t b r) (marked_fits t b r h)

-- bytes over as many others
put_over : (p : ℕ) (front xs ys tail : List ℕ) → length front ≡ p → length xs ≡ length ys → put p xs (front ++ (ys ++ tail)) ≡ front ++ (xs ++ tail)
unfolding put
put_over p front xs ys tail h k =
    let d : drop (p + length xs) (front ++ (ys ++ tail)) ≡ tail = rw (← h, k, drop-append-add front (ys ++ tail) (length ys)) (drop_at ys tail (length ys) refl) in
    rw (take_at front (ys ++ tail) p h, d) refl

-- a place given to the record in a buffer
placed_bytes : (q : ℕ) (r : Record) → r.place ≡ 0 → (front tail out : List ℕ) (p : ℕ) → out ≡ front ++ (catalogue_bytes layout (r ∷ []) ++ tail) → length front ≡ p → word_at out p ≡ first_word r → placed layout q out p ≡ front ++ (catalogue_bytes layout (with_place q r ∷ []) ++ tail)
unfolding placed below same_field field_number total layout
placed_bytes q r z front tail out p b l w =
    let x : word_at out p + q * 2 ^ 54 ≡ first_word (with_place q r) = ap (λ k. k + q * 2 ^ 54) w ∙ sym (placed_word q r z) in
    let y : out ≡ front ++ (big_endian 8 (first_word r) ++ (after_first r ++ tail)) = b ∙ ap (λ k. front ++ k) (ap (λ k. k ++ tail) (first_bytes r) ∙ append_assoc (big_endian 8 (first_word r)) (after_first r) tail) in
    ap (λ k. put p (big_endian 8 k) out) x
    ∙ (ap (put p (big_endian 8 (first_word (with_place q r)))) y
    ∙ (put_over p front (big_endian 8 (first_word (with_place q r))) (big_endian 8 (first_word r)) (after_first r ++ tail) l (big_endian_length 8 (first_word (with_place q r)) ∙ sym (big_endian_length 8 (first_word r)))
    ∙ ap (λ k. front ++ k) (sym (append_assoc (big_endian 8 (first_word (with_place q r))) (after_first r) tail) ∙ ap (λ k. k ++ tail) (ap (λ k. big_endian 8 (first_word (with_place q r)) ++ k) (sym (placed_after q r)) ∙ sym (first_bytes (with_place q r))))))

-- one record
module _ (t : List ℕ) (limit : length t ≤ text_limit) {out f : List ℕ} {start p : ℕ} (m : Marking t out f start p) where
  abbrev F : LayoutFits layout (length t)
  F = layout_fits (length t) limit

  abbrev pub mark_there : RecordAt layout (length t) out p
  mark_there = record_there F m.this m.fits m.front m.tail out p m.bytes m.place

  pub mark_room : p + 8 ≤ length out
  mark_room = omega (arith, ap length m.bytes, length-append m.front (catalogue_bytes layout (m.this ∷ []) ++ m.tail), length-append (catalogue_bytes layout (m.this ∷ [])) m.tail, catalogue_bytes_length (m.this ∷ []), record_some m.this, m.place)

  unmarked_is : unmarked_at out p ≡ is_unmarked m.this.kind m.this.place (from_top 7 m.this.flags)
  unmarked_is = rw (kind_is F mark_there, place_is F mark_there, flags_are F mark_there) refl

  name_of : name_at t out p ≡ bytes_at t m.this.name
  unfolding bytes_at offset size
  name_of = rw (offset_is F mark_there, length_is F mark_there) refl

  found_is : has_global t (value_at layout kind_field out p) (name_at t out p) m.before.records ≡ has_global t m.this.kind (bytes_at t m.this.name) m.before.records
  found_is = rw (kind_is F mark_there, name_of) refl

  -- a filter that has the id
  module _ {g : List ℕ} where
    pub mark_held : {h : ℕ} → h ≡ hash_at t out p → Holds g h → Holds g (hash_of m.this.kind (bytes_at t m.this.name))
    mark_held e a = rw (← kind_is F mark_there, ← name_of, ← e) a

    -- or need not have it
    pub mark_elsewhere : (value_at layout place_field out p ≡ 1 → ⊥) → HoldsId g t m.this
    mark_elsewhere d e = absurd (d (place_is F mark_there ∙ e))

  module _ {b : Bool} (u : b ≡ unmarked_at out p) {g : List ℕ} (grows : Grown g f) where
    pub mark_kept : b ≡ false → HoldsId g t m.this → Marked m out g
    mark_kept e i =
        let z : m.this ≡ marked t m.before.records m.this = sym (marked_kept t m.before.records m.this (sym unmarked_is ∙ sym u ∙ e)) in
        record { bytes = m.bytes ∙ ap (λ (x : Record). m.front ++ (catalogue_bytes layout (x ∷ []) ++ m.tail)) z; grown = grows; id = subst (λ (r : Record). HoldsId g t r) z i }

    module _ (e : b ≡ true) where
      pub mark_free : value_at layout place_field out p ≡ 0
      mark_free = unmarked_place _ _ _ (sym u ∙ e)

      -- the mark by whether the id is held
      pub mark_set : {new : List ℕ} (h : Bool) → h ≡ has_global t (value_at layout kind_field out p) (name_at t out p) m.before.records → new ≡ placed layout (elim h [ true ↦ 2 | false ↦ 1 ]) out p
          → (◌≡◌ {A = ℕ} (elim h [ true ↦ 2 | false ↦ 1 ]) 1 → Holds g (hash_of m.this.kind (bytes_at t m.this.name)))
          → Marked m new g
      unfolding mark_after with_place
      mark_set h f' k i =
          let q : ℕ = elim h [ true ↦ 2 | false ↦ 1 ] in
          let z : mark_after t m.before.records m.this.kind m.this.name ≡ q = ap (λ (x : Bool). elim x [ true ↦ 2 | false ↦ 1 ]) (sym (f' ∙ found_is)) in
          let r : with_place q m.this ≡ marked t m.before.records m.this = sym (marked_set t m.before.records m.this (sym unmarked_is ∙ sym u ∙ e) z) in
          record {
            bytes = k ∙ (placed_bytes q m.this (sym (place_is F mark_there) ∙ mark_free) m.front m.tail out p m.bytes m.place (first_at mark_there) ∙ ap (λ (x : Record). m.front ++ (catalogue_bytes layout (x ∷ []) ++ m.tail)) r);
            grown = grows;
            id = subst (λ (x : Record). HoldsId g t x) r i;
          }

-- the records of hoisted items fit
mark_below : (l : List (List ℕ)) (s : Bool) (i : List ℕ) → mark l s i < 2 ^ 2
unfolding mark
mark_below l false i = lit< tt
mark_below l true i = two_or_one (held i l)

place_below : (t : Tables) (m : Member) → place_by t m < 2 ^ 2
unfolding place_by
place_below t (revision n) = lit< tt
place_below t (bitmap c) = mark_below _ _ _
place_below t (enum c) = mark_below _ _ _
place_below t (struct s) = mark_below _ _ _
place_below t (attribute a) = lit< tt
place_below t (command c) = lit< tt
place_below t (event e) = lit< tt

pub hoisted_fits : (text : List ℕ) (n : ℕ) (t : Tables) (l : List Item) → All (ItemTrue 0 text n) l → All (RecordFits n) (hoisted t l)
unfolding hoisted
hoisted_fits text n t [] h = tt
hoisted_fits text n t (i ∷ l) h = all_append (RecordFits n) (item_records 1 (place_by t) i) _ (item_fits 0 text n (place_by t) (place_below t) 1 (lit< tt) i h.0) (hoisted_fits text n (after_item t i) l h.1)

-- an item: the records seen are marked, and those that are left are as they were written
module _ (t : List ℕ) {old f₀ : List ℕ} {start end : ℕ} where
  pub record MarkingAt (u : Unhoisted t old f₀ start end) (out f : List ℕ) (p : ℕ) : Type 0 where
    pub seen : List Record
    pub left : List Record
    pub whole : unhoisted_item u.item ≡ seen ++ left
    pub walk : Walk (length t) (catalogue_bytes layout (hoisted no_ids u.before ++ map (marked t (hoisted no_ids u.before)) seen)) left u.tail out p end
    pub filtered : Filtered f t (hoisted no_ids u.before ++ map (marked t (hoisted no_ids u.before)) seen)

  module _ (u : Unhoisted t old f₀ start end) where
    abbrev H : List Record
    H = hoisted no_ids u.before

    pub marking_start : MarkingAt u old f₀ start
    marking_start =
        record {
          seen = [];
          left = unhoisted_item u.item;
          whole = refl;
          walk = rw append-nil (record {
            bytes = u.bytes ∙ (ap (λ x. x ++ u.tail) (catalogue_bytes_append layout H (unhoisted_item u.item)) ∙ append_assoc (catalogue_bytes layout H) _ _);
            start = omega (arith, catalogue_bytes_length H, u.starts);
            ends = u.ends;
            fit = item_fits 0 t (length t) (λ m. 0) (λ m. lit< tt) 1 (lit< tt) u.item u.item_true;
          });
          filtered = rw append-nil u.filtered;
        }

    module _ {out f : List ℕ} {p : ℕ} (h : MarkingAt u out f p) where
      pub marking_same : length out ≡ length old
      marking_same = walk_length h.walk ∙ sym (walk_length marking_start.walk)

      pub marking_end : end ≤ p → Hoisted u out f
      marking_end e =
          let z : h.left ≡ [] = walk_over h.left h.walk e in
          let y : unhoisted_item u.item ≡ h.seen = h.whole ∙ (ap (λ x. h.seen ++ x) z ∙ append-nil h.seen) in
          let r : H ++ map (marked t H) h.seen ≡ hoisted no_ids (u.before ++ (u.item ∷ [])) = ap (λ x. H ++ map (marked t H) x) (sym y) ∙ marking t (length t) u.before u.item u.before_true u.item_true in
          record { bytes = h.walk.bytes ∙ rw (z, catalogue_bytes_none layout, r) refl; filtered = rw r at h.filtered }

      module _ (e : p < end) where
        stands : Standing (λ l. unhoisted_item u.item ≡ h.seen ++ l) (length t) (catalogue_bytes layout (H ++ map (marked t H) h.seen)) u.tail out p end
        stands = walk_stands _ h.left h.walk e h.whole

        abbrev before_it : Catalogue (length t) out start
        before_it =
            record {
              records = H;
              fit = hoisted_fits t (length t) no_ids u.before u.before_true;
              tail = catalogue_bytes layout (map (marked t H) h.seen) ++ (catalogue_bytes layout (stands.this ∷ stands.rest) ++ u.tail);
              bytes = stands.walk.bytes ∙ (ap (λ x. x ++ (catalogue_bytes layout (stands.this ∷ stands.rest) ++ u.tail)) (catalogue_bytes_append layout H (map (marked t H) h.seen)) ∙ append_assoc (catalogue_bytes layout H) _ _);
              ends = u.starts;
            }

        module _ (limit : length t ≤ text_limit) where
          abbrev at_it : Marking t out f start p
          at_it =
              record {
                before = before_it;
                filtered = filtered_front H _ h.filtered;
                this = stands.this;
                fits = stands.walk.fit.0;
                front = catalogue_bytes layout (H ++ map (marked t H) h.seen);
                tail = catalogue_bytes layout stands.rest ++ u.tail;
                bytes = walk_bytes stands.walk;
                place = stands.walk.start;
              }

          pub marking_at : Marking t out f start p
          marking_at = at_it

          words_are : words_of_kind layout (value_at layout kind_field out p) ≡ words_of_kind layout stands.this.kind
          words_are = ap (words_of_kind layout) (kind_is (layout_fits (length t) limit) (walk_at stands.walk limit))

          pub marking_inside : {n : ℕ} → n ≡ words_of_kind layout (value_at layout kind_field out p) → (p < p + 8 * n) × (p + 8 * n ≤ end)
          marking_inside z = stands_inside stands (z ∙ words_are)

          pub marking_more : {new g : List ℕ} {n : ℕ} → MarkedTo new g t out f start p → n ≡ words_of_kind layout (value_at layout kind_field out p) → MarkingAt u new g (p + 8 * n)
          marking_more {new} {g} k z =
              let r = stands.this in
              let m : Record = marked t H r in
              let s : (H ++ map (marked t H) h.seen) ++ (m ∷ []) ≡ H ++ map (marked t H) (h.seen ++ (r ∷ [])) = append_assoc H _ _ ∙ ap (λ x. H ++ x) (sym (map-append (marked t H) h.seen (r ∷ []))) in
              let v : catalogue_bytes layout (H ++ map (marked t H) h.seen) ++ catalogue_bytes layout (m ∷ []) ≡ catalogue_bytes layout (H ++ map (marked t H) (h.seen ++ (r ∷ []))) =
              sym (catalogue_bytes_append layout (H ++ map (marked t H) h.seen) (m ∷ [])) ∙ ap (catalogue_bytes layout) s in
              rw (z, words_are) (record {
                seen = h.seen ++ (r ∷ []);
                left = stands.rest;
                whole = stands.holds ∙ sym (append_assoc h.seen (r ∷ []) stands.rest);
                walk = rw v at (walk_after stands.walk m new (marked_words t H r stands.walk.fit.0) (k at_it).bytes);
                filtered = rw s at (filtered_more (k at_it).grown t h.filtered m (k at_it).id);
              })

-- the loop: whichever item is there
abbrev pub MarkingItem : (t old f₀ : List ℕ) → (start end : ℕ) → (out f : List ℕ) → (p : ℕ) → Type 0
MarkingItem t old f₀ start end out f p = (u : Unhoisted t old f₀ start end) → MarkingAt t u out f p
