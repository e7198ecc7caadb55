-- The second pass after the records of earlier items: a turn writes an item's records and then marks them, and at the end all items are at the front of the buffer.
use mathlib.Core.Path.{◌≡◌, refl, sym, ap, ◌∙◌}
use mathlib.Core.List.{List, [], ◌∷◌, ◌++◌, append_assoc, append-nil}
use Prim.Native.Nat.{ℕ, ◌+◌, ◌-◌, ◌*◌, ◌<◌}
use native.Mathlib.Omega.{arith}
use lib.ListN.{length, drop, length-append, length-drop}
use lib.Seq.{take_at, drop-append-add}
use Rattle.lexing.specs.reply.{ok}
use Rattle.lexing.specs.answers.{Rest, doc_of, BlankTo}
use Rattle.lexing.specs.declared.blanks.Blank.{Blank}
use Rattle.items.specs.items.{Item}
use Rattle.items.specs.answers.items.{declaration}
use Rattle.items.specs.records.{Record}
use Rattle.lexing.specs.buffers.{each, put}
use Rattle.items.specs.layout.{layout, catalogue_bytes, word_count}
use Rattle.items.specs.answers.{Room, Written}
use Rattle.items.specs.answers.items.{unhoisted_item}
use Rattle.items.specs.declared.writing.Wrote.{Wrote}
use Rattle.items.proofs.Truth.{ItemTrue}
use Rattle.items.proofs.RecordsFit.{all_append}
use Rattle.items.proofs.RecordWords.{catalogue_bytes_none, catalogue_bytes_append, catalogue_bytes_length, word_count_none, word_count_append, word_count_more, each_elementwise}
use Rattle.matter_idl.specs.hoisting.{Tables, no_ids, after_items, hoisted}
use Rattle.matter_idl.specs.reading.{all_items}
use Rattle.matter_idl.specs.inner.filter.{Filtered}
use Rattle.matter_idl.specs.inner.hoisting.{Unhoisted, HoistedTo}
use Rattle.matter_idl.specs.inner.reading.{PartOf, HoistedFront, HoistedAfter, HoistedItemsTo}
use Rattle.matter_idl.proofs.Around.{item_whole, items_whole}
use Rattle.matter_idl.proofs.Places.{hoisted_words}
use Rattle.matter_idl.proofs.filter.Laws.{filtered_none}
use Rattle.matter_idl.proofs.hoisting.Marks.{hoisted_append}
use Rattle.matter_idl.proofs.reading.Laws.{HoistingItems, hoisting_start, hoisting_place, hoisting_written, hoisting_true, hoisting_more, hoisting_ends}

-- bytes written after the first of a buffer
pub put_after : (at : ℕ) (front xs tail : List ℕ) → at ≡ length front → put at xs (front ++ tail) ≡ front ++ (xs ++ drop (length xs) tail)
unfolding put
put_after at front xs tail e = rw (e, take_at front tail (length front) refl, drop-append-add front tail (length xs)) refl

-- nothing is at the front yet
unfoldable pub front_none : (t out : List ℕ) {filter : List ℕ} → HoistedFront t out filter 0
unfolding hoisted
front_none t out = record { items = []; true_items = tt; tail = out; bytes = rw (catalogue_bytes_none layout) refl; ends = omega (arith, word_count_none); filtered = filtered_none t }

module _ {t old filter : List ℕ} {at : ℕ} (f : HoistedFront t old filter at) where
  abbrev tables : Tables
  tables = after_items no_ids f.items

  -- records written after the front
  following : (l : List Record) → put at (catalogue_bytes layout l) old ≡ catalogue_bytes layout (hoisted no_ids f.items ++ l) ++ drop (8 * word_count layout l) f.tail
  following l =
      let front = catalogue_bytes layout (hoisted no_ids f.items) in
      let xs = catalogue_bytes layout l in
      ap (put at xs) f.bytes ∙ (put_after at front xs f.tail (omega (arith, f.ends, catalogue_bytes_length (hoisted no_ids f.items))) ∙ rw (catalogue_bytes_length l, catalogue_bytes_append layout (hoisted no_ids f.items) l) (sym (append_assoc front xs _)))

  -- those of items are hoisted with the items of the front
  items_put_after : (l : List Item) → put at (catalogue_bytes layout (hoisted tables l)) old ≡ catalogue_bytes layout (hoisted no_ids (f.items ++ l)) ++ drop (8 * word_count layout (hoisted tables l)) f.tail
  items_put_after l = following (hoisted tables l) ∙ rw (hoisted_append no_ids f.items l) refl

  words_with : (l : List Item) → word_count layout (hoisted no_ids (f.items ++ l)) ≡ word_count layout (hoisted no_ids f.items) + word_count layout (hoisted tables l)
  words_with l = ap (word_count layout) (hoisted_append no_ids f.items l) ∙ word_count_append (hoisted no_ids f.items) (hoisted tables l)

-- the loop: whichever items are at the front, the filter has the ids of those and of the ones after
abbrev After : (t filter : List ℕ) {old filter₀ : List ℕ} {at : ℕ} → HoistedFront t old filter₀ at → List Record → Type 0
After t filter f l = Filtered filter t (hoisted no_ids f.items ++ l)

abbrev pub HoistingAfter : (t : List ℕ) (b : ℕ) (u : List ℕ) (c at : ℕ) (old filter₀ new filter : List ℕ) (to : ℕ) → Type 0
HoistingAfter t b u c at old filter₀ new filter to = (f : HoistedFront t old filter₀ at) → HoistingItems (After t filter f) (tables f) b u c at old new to

pub after_start : (t : List ℕ) (b : ℕ) (u : List ℕ) (at : ℕ) (old filter : List ℕ) → Room (each unhoisted_item) all_items b u at (length old) → HoistingAfter t b u b at old filter old filter at
after_start t b u at old filter room f = hoisting_start (tables f) b u at old room (rw append-nil f.filtered)

module _ {t : List ℕ} {b : ℕ} {u : List ℕ} (p : PartOf t b u) {at : ℕ} {old filter₀ : List ℕ} (room : Room (each unhoisted_item) all_items b u at (length old)) {c : ℕ} {new filter : List ℕ} {to : ℕ} (j : HoistingAfter t b u c at old filter₀ new filter to)
    {r : List ℕ} (q : Rest b u c r) {s : Blank} (w : BlankTo s c r) where
  module _ {v : List ℕ} (q' : Rest b u s.next v) {o : Wrote} {new' : List ℕ} (g : Written unhoisted_item (declaration (doc_of s.doc)) s.next v to o new new') (f : HoistedFront t old filter₀ at) where
    abbrev i : HoistingItems (After t filter f) (tables f) b u c at old new to
    i = j f

    abbrev seen : List Item
    seen = i.writing.seen

    abbrev before : List Item
    before = f.items ++ seen

    -- the part's records while the item is not marked; marking leaves them as long
    abbrev unmarked : List Record
    unmarked = hoisted (tables f) seen ++ unhoisted_item g.value

    as_long : word_count layout unmarked ≡ word_count layout (hoisted (tables f) (seen ++ (g.value ∷ [])))
    as_long = omega (arith, word_count_append (hoisted (tables f) seen) (unhoisted_item g.value), hoisted_words (tables f) (seen ++ (g.value ∷ [])), hoisted_words (tables f) seen, word_count_more (each_elementwise unhoisted_item) seen g.value)

    pub mark_asks : Unhoisted t new' filter to o.to
    mark_asks = record {
      before = before;
      item = g.value;
      before_true = all_append (ItemTrue 0 t (length t)) f.items seen f.true_items (items_whole p seen i.true_items);
      item_true = item_whole p g.value (hoisting_true (tables f) b u at old room i q w q' g);
      filtered = rw (hoisted_append no_ids f.items seen) i.holds;
      tail = drop (8 * word_count layout unmarked) f.tail;
      bytes = hoisting_written (tables f) b u at old room i q w q' g ∙ (following f unmarked ∙ rw (hoisted_append no_ids f.items seen, append_assoc (hoisted no_ids f.items) (hoisted (tables f) seen) (unhoisted_item g.value)) refl);
      starts = omega (arith, hoisting_place (tables f) b u at old room i, f.ends, words_with f seen);
      ends = g.place;
    }

    pub mark_turn : {new'' filter' : List ℕ} → HoistedTo new'' filter' t new' filter to o.to → HoistingItems (After t filter' f) (tables f) b u o.next at old new'' o.to × (c < o.next)
    unfolding mark_asks
    mark_turn h =
        let k = h mark_asks in
        let z : before ++ (g.value ∷ []) ≡ f.items ++ (seen ++ (g.value ∷ [])) = append_assoc f.items seen (g.value ∷ []) in
        hoisting_more (tables f) b u at old room i q w q' g
        (k.bytes ∙ (rw (z, as_long) refl ∙ sym (items_put_after f (seen ++ (g.value ∷ [])))))
        (rw (z, hoisted_append no_ids f.items (seen ++ (g.value ∷ []))) at k.filtered)

  -- the end of the part
  pub hoisted_all : s.next ≡ b + length u → HoistedItemsTo new filter t old filter₀ at b u (record { next = s.next; to = to })
  hoisted_all e f =
      let k = hoisting_ends (tables f) b u at old room (j f) q w e in
      let l = k.0.value in
      let n : to - at ≡ 8 * word_count layout (hoisted (tables f) l) = omega (arith, k.0.place) in
      record {
        items = l;
        is = k.0.is;
        front = record {
          items = f.items ++ l;
          true_items = all_append (ItemTrue 0 t (length t)) f.items l f.true_items (items_whole p l k.1.0);
          tail = drop (to - at) f.tail;
          bytes = k.0.bytes ∙ (items_put_after f l ∙ rw n refl);
          ends = omega (arith, k.0.place, f.ends, words_with f l);
          filtered = rw (hoisted_append no_ids f.items l) k.1.1;
        };
        front_items = refl;
        front_tail = refl;
      }

-- the buffer keeps its length
pub after_same : {t old filter₀ new filter : List ℕ} {at b : ℕ} {u : List ℕ} {w : Wrote} → Room (each unhoisted_item) all_items b u at (length old) → {f : HoistedFront t old filter₀ at} → HoistedAfter f b u w new filter → length new ≡ length old
after_same {old = old} {at = at} {w = w} room {f} h =
    let z = room.is ∙ sym h.is in
    let y : room.value ≡ h.items = cc in
    let x : word_count layout (each unhoisted_item room.value) ≡ word_count layout (each unhoisted_item h.items) = ap (λ (l : List Item). word_count layout (each unhoisted_item l)) y in
    let n : w.to ≡ at + 8 * word_count layout (hoisted (tables f) h.items) = omega (arith, h.front.ends, ap (λ (l : List Item). word_count layout (hoisted no_ids l)) h.front_items, words_with f h.items, f.ends) in
    omega (
      arith,
      room.fits,
      x,
      n,
      hoisted_words (tables f) h.items,
      f.ends,
      ap length f.bytes,
      length-append (catalogue_bytes layout (hoisted no_ids f.items)) f.tail,
      catalogue_bytes_length (hoisted no_ids f.items),
      h.front.ends,
      ap length h.front.bytes,
      length-append (catalogue_bytes layout (hoisted no_ids h.front.items)) h.front.tail,
      catalogue_bytes_length (hoisted no_ids h.front.items),
      ap length h.front_tail,
      length-drop (w.to - at) f.tail,
    )

-- with nothing at the front, the items of the part alone
pub hoisted_alone : {t old filter₀ new filter : List ℕ} {b : ℕ} {u : List ℕ} {w : Wrote} → HoistedItemsTo new filter t old filter₀ 0 b u w → {l : List Item} {c : ℕ} {r : List ℕ} → ok l c r ≡ all_items b u → new ≡ catalogue_bytes layout (hoisted no_ids l) ++ drop (8 * word_count layout (hoisted no_ids l)) old
unfolding front_none
hoisted_alone {t} {old} {w = w} g {l} e =
    let k = g (front_none t old) in
    let x = e ∙ sym k.is in
    let y : k.items ≡ l = cc in
    let f : k.front.items ≡ l = k.front_items ∙ y in
    let n : w.to - 0 ≡ 8 * word_count layout (hoisted no_ids l) = omega (arith, k.front.ends, ap (λ (i : List Item). word_count layout (hoisted no_ids i)) f) in
    k.front.bytes ∙ rw (f, k.front_tail, n) refl
