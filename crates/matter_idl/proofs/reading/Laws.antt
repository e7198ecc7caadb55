-- Both passes over all items of a part: blanks and a declaration, until the part ends.
use mathlib.Core.Path.{◌≡◌, refl, sym, ap, ◌∙◌, subst}
use mathlib.Core.Logic.{◌⊎◌, inl, inr}
use mathlib.Core.List.{List, [], ◌∷◌, ◌++◌, append-nil}
use Prim.Native.Nat.{ℕ, ◌+◌, ◌-◌, ◌*◌, ◌≤◌, ◌<◌}
use native.Mathlib.Omega.{arith}
use native.Mathlib.Decide.{ℕ_discrete}
use lib.ListN.{length, drop}
use Rattle.lexing.specs.reply.{Reply, ok, fail, stop, Parser, ret, ◌>>◌, many0}
use Rattle.lexing.specs.blanks.{whitespace0, whitespace1}
use Rattle.lexing.specs.answers.{lost_reply, Rest, doc_of, BlankTo, Lost}
use Rattle.lexing.specs.declared.blanks.Blank.{Blank}
use Rattle.lexing.proofs.blanks.Laws.{gap_none, gap_some}
use Rattle.lexing.proofs.Repetition.{ManyAt, before, many0_step, many0_stop}
use Rattle.lexing.proofs.Slicing.{Took, rest_self, rest_from, rebase, blank_took, or_here, took}
use Rattle.lexing.proofs.TextEnd.{clear_blank}
use Rattle.items.specs.items.{Item, blank_item, item}
use Rattle.items.specs.answers.items.{declaration}
use Rattle.lexing.proofs.Truth.{All}
use Rattle.items.proofs.Truth.{ItemTrue, item_true}
use Rattle.items.specs.records.{Record, item_records}
use Rattle.lexing.specs.buffers.{each, put}
use Rattle.items.specs.layout.{layout, catalogue_bytes, word_count}
use Rattle.items.specs.answers.{CountTo, Room, Written}
use Rattle.items.specs.answers.items.{unhoisted_item, DeclarationCountTo}
use Rattle.items.specs.declared.writing.Wrote.{Wrote}
use Rattle.std.specs.Prelude.{Ok, Err, None}
use Rattle.lexing.specs.declared.answers.Refusal.{Refusal}
use Rattle.lexing.specs.declared.answers.LostBy.TheVariants.{Fail, Stop}
use Rattle.items.proofs.Locality.{item_consumes}
use Rattle.items.proofs.RecordsFit.{all_append}
use Rattle.items.proofs.RecordWords.{each_elementwise, catalogue_bytes_none, catalogue_bytes_append, catalogue_bytes_length, word_count_append}
use Rattle.items.specs.inner.runs.{Elementwise}
use Rattle.lexing.proofs.buffers.Laws.{put_nothing, put_length, put_on}
use Rattle.items.proofs.Braces.{ok_no_stop, rest_is}
use Rattle.lexing.proofs.Sequences.{then_ok, then_fail}
use Rattle.lexing.proofs.steps.Laws.{rest_clear}
use Rattle.items.proofs.counts.Laws.{Counting, counting_start, counting_more, count_took, count_lost, count_is, count_not}
use Rattle.items.proofs.items.Laws.{item_is, declaration_walks, item_walks, item_words, item_lost, item_blank}
use Rattle.items.proofs.items.Ends.{item_cases}
use Rattle.items.proofs.writing.Laws.{Writing, writing_start, writing_start_seen, writing_same, writing_fits, writing_more, writing_more_seen, no_room}
use Rattle.matter_idl.specs.hoisting.{Tables, place_by, after_items, hoisted}
use Rattle.matter_idl.specs.reading.{all_items}
use Rattle.matter_idl.proofs.Places.{hoisted_words, item_words as words_of_places}
use Rattle.matter_idl.proofs.hoisting.Walk.{record_some}
use Rattle.matter_idl.proofs.hoisting.Marks.{hoisted_more}
use Rattle.matter_idl.proofs.AllItems.{no_declaration, accepted_many, all_ended, all_lost}

-- a rest of a rest
rest_within : {b c s : ℕ} {u r v : List ℕ} → Rest b u c r → Rest b u s v → c ≤ s → Rest c r s v
rest_within {b} {c} {s} {u} q q' h = record { from = h; same = q'.same ∙ sym (ap (drop (s - c)) q.same ∙ rebase b c s u q.from h); size = omega (arith, q.size, q'.size) }

-- bytes are left before the end
bytes_left : {b s : ℕ} {u v : List ℕ} → Rest b u s v → (s ≡ b + length u → ⊥) → 0 < length v
bytes_left q e = omega (arith, q.from, q.size, e)

nothing_left : (r : List ℕ) → length r ≡ 0 → r ≡ []
nothing_left [] e = refl
nothing_left (x ∷ r) e = absurd (omega arith)

abbrev items_one : Elementwise (each unhoisted_item) unhoisted_item
items_one = each_elementwise unhoisted_item

-- Blanks that reach the end: no declaration is there, whatever the doc comment before it.
module _ {b c : ℕ} {u r : List ℕ} (q : Rest b u c r) {t : Blank} (w : BlankTo t c r) (e : t.next ≡ b + length u) where
  end_rest : Rest b u t.next (drop (t.next - b) u)
  end_rest = rest_from b t.next u (omega (arith, q.from, w.up)) (omega (arith, e))

  end_none : drop (t.next - b) u ≡ []
  end_none = nothing_left (drop (t.next - b) u) (omega (arith, end_rest.size, e))

  end_lost : DeclarationCountTo (Err (Fail t.next)) t.next (drop (t.next - b) u)
  end_lost = record { counts = λ d. count_not unhoisted_item (declaration d) _ _ (Fail t.next) (sym (ap (declaration d t.next) end_none ∙ no_declaration d t.next)) }

-- the first pass
abbrev pub CountingItems : ℕ → List ℕ → ℕ → ℕ → Type 0
CountingItems b u c n = Counting (each unhoisted_item) item b u c n

pub items_start : (b : ℕ) (u : List ℕ) → CountingItems b u b 0
items_start b u = counting_start items_one item b u

module _ {b c n : ℕ} {u r : List ℕ} (i : CountingItems b u c n) (q : Rest b u c r) where
  -- an item of k words
  more : {k e : ℕ} → CountTo unhoisted_item item (Ok (k, e)) c r → CountingItems b u e (n + k) × (c < e)
  more h = let s = count_took item_walks q h in counting_more items_one item item_consumes s.value i s.step s.words (λ l. s.few)

  module _ {t : Blank} (w : BlankTo t c r) {v : List ℕ} (q' : Rest b u t.next v) where
    within : Rest c r t.next v
    within = rest_within q q' w.up

    -- blanks after which no declaration is
    passed : {p : ℕ} → DeclarationCountTo (Err (Fail p)) t.next v → CountingItems b u t.next n
    passed h = go (ℕ_discrete t.next c)
      where
        go : Dec (t.next ≡ c) → CountingItems b u t.next n
        go (yes e) = subst (λ (s : ℕ). CountingItems b u s n) (sym e) i
        go (no e) = let z : n + 0 ≡ n = omega arith in rw z at (more (item_blank w within h e refl)).0

    pub items_more : {k e : ℕ} → DeclarationCountTo (Ok (k, e)) t.next v → CountingItems b u e (n + k) × (c < e)
    items_more h = more (item_words w within h)

    -- what is lost of a declaration is lost of all items, after blanks too
    pub items_lost : (t.next ≡ b + length u → ⊥) → (l : Lost) → DeclarationCountTo (Err l) t.next v → CountTo (each unhoisted_item) all_items (Err l) b u
    items_lost e l h = count_not (each unhoisted_item) all_items b u l (go l h)
      where
        clear : BlankTo (record { next = t.next; doc = None }) t.next v
        clear = clear_blank (rest_clear (blank_took q w) q')

        stopped : (k : Refusal) (p : ℕ) → DeclarationCountTo (Err (Stop k p)) t.next v → Dec (t.next ≡ c) → CountTo unhoisted_item item (Err (Stop k p)) c r
        stopped k p g (yes y) = item_lost w within g y
        stopped k p g (no y) = item_blank w within g y refl

        go : (l : Lost) → DeclarationCountTo (Err l) t.next v → lost_reply l ≡ all_items b u
        go (Fail p) g = all_lost (passed g).run q' (bytes_left q' e) (Fail p) (count_lost t.next v (item_lost clear (rest_self t.next v) g refl))
        go (Stop k p) g = all_lost i.run q (omega (arith, bytes_left q' e, q.size, q'.size, w.up)) (Stop k p) (count_lost c r (stopped k p g (ℕ_discrete t.next c)))

  pub items_ended : {t : Blank} → BlankTo t c r → t.next ≡ b + length u → CountTo (each unhoisted_item) all_items (Ok (n, t.next)) b u
  items_ended {t} w e =
      let j = passed w (end_rest q w e) (end_lost q w e) in
      count_is (each unhoisted_item) all_items b u j.seen n t.next j.words j.few (all_ended j.run (end_rest q w e) (end_none q w e))

-- the second pass
abbrev pub WritingItems : ℕ → List ℕ → ℕ → ℕ → List ℕ → List ℕ → ℕ → Type 0
WritingItems b u c at old new to = Writing (each unhoisted_item) item b u c at old new to

blank_ends : {t : Blank} {c : ℕ} {r : List ℕ} → BlankTo t c r → {i : Item} {e : ℕ} {v : List ℕ} → ok i e v ≡ (whitespace1 >> ret blank_item) c r → e ≡ t.next
unfolding ret
blank_ends {t} {c} {r} w {i} {e} {v} h = go (ℕ_discrete t.next c)
  where
    go : Dec (t.next ≡ c) → e ≡ t.next
    go (yes y) = let z = h ∙ then_fail _ _ (sym (gap_none c r t w y)) in let o : ◌≡◌ {A = ℕ} 0 1 = cc in absurd (omega arith)
    go (no y) = let z = h ∙ then_ok _ _ (sym (gap_some c r t w y)) in cc

module _ (b : ℕ) (u : List ℕ) (at : ℕ) (old : List ℕ) (room : Room (each unhoisted_item) all_items b u at (length old)) where
  many : Room (each unhoisted_item) (many0 item) b u at (length old)
  many = record { value = room.value; next = room.next; is = (accepted_many b u room.is).0; fits = room.fits }

  pub placing_start : WritingItems b u b at old old at
  placing_start = writing_start items_one item b u at old many

  module _ {c : ℕ} {new : List ℕ} {to : ℕ} (i : WritingItems b u c at old new to) where
    pub placing_same : length new ≡ length old
    placing_same = writing_same items_one item b u at old many i

    module _ {r : List ℕ} (q : Rest b u c r) {t : Blank} (w : BlankTo t c r) where
      abbrev following : Parser Item
      following = declaration (doc_of t.doc)

      blanks : Took whitespace0 b u c (doc_of t.doc) t.next
      blanks = blank_took q w

      -- an item is the declaration after its blanks
      item_took : {a : Item} {n : ℕ} → Took following b u t.next a n → Took item b u c a n
      item_took {a} {n} s = record {
        goes = item_is c (drop (c - b) u) blanks.goes ∙ sym (or_here _ _ c (drop (c - b) u) a n (drop (n - b) u) (sym s.goes));
        up = omega (arith, s.up, blanks.up);
        inside = s.inside;
      }

      module _ {v : List ℕ} (q' : Rest b u t.next v) where
        there : {a : Item} {n : ℕ} → ok a n (drop (n - t.next) v) ≡ following t.next v → Took item b u c a n
        there g = item_took (took (declaration_walks (doc_of t.doc)) q' g)

        -- before the end a declaration is there, and there is room for it
        pub placing_room : (t.next ≡ b + length u → ⊥) → Room unhoisted_item following t.next v to (length new)
        placing_room e = find (item c r) refl
          where
            within : Rest c r t.next v
            within = rest_within q q' w.up

            lost : (l : Lost) → lost_reply l ≡ item c r → ⊥
            lost l y = no_room room l (all_lost i.run q (omega (arith, bytes_left q' e, q.size, q'.size, w.up)) l y)

            declared : (a : Item) (n : ℕ) (s : List ℕ) → ok a n s ≡ following t.next v → Room unhoisted_item following t.next v to (length new)
            declared a n s y =
                let k = rest_is (declaration_walks (doc_of t.doc)) t.next n v s a (sym y) in
                let g : ok a n (drop (n - t.next) v) ≡ following t.next v = rw (← k) y in
                record { value = a; next = n; is = g; fits = (writing_fits items_one item b u at old many i item_consumes (there g) (word_count layout (unhoisted_item a)) refl).0 }

            -- blanks before the end are no item
            blank : (a : Item) (n : ℕ) (s : List ℕ) (p : ℕ) → item c r ≡ ok a n s → n ≡ t.next → item t.next v ≡ fail p → ⊥
            blank a n s p y z f =
                let k = rest_is item_walks c n r s a y in
                let g : ok a n (drop (n - c) r) ≡ item c r = rw (← k) (sym y) in
                let m = (many0_step item_consumes i.run (took item_walks q g)).0 in
                no_room room (Fail p) (all_lost (subst (λ (o : ℕ). ManyAt item b u o (i.seen ++ (a ∷ []))) z m) q' (bytes_left q' e) (Fail p) (sym f))

            find : (x : Reply Item) → item c r ≡ x → Room unhoisted_item following t.next v to (length new)
            find (ok a n s) y = go (item_cases c r (sym w.reads) (sym y))
              where
                go : (ok a n s ≡ following t.next (drop (t.next - c) r)) ⊎ ((ok a n s ≡ (whitespace1 >> ret blank_item) c r) × ((p : ℕ) × (item t.next (drop (t.next - c) r) ≡ fail p))) → Room unhoisted_item following t.next v to (length new)
                go (inl h) = declared a n s (rw within.same h)
                go (inr h) = absurd (blank a n s h.1.0 y (blank_ends w h.0) (rw within.same h.1.1))
            find (fail p) y = absurd (lost (Fail p) (sym y))
            find (stop k p) y =
                let e = many0_stop item item_consumes c (drop (c - b) u) k p (ap (item c) (sym q.same) ∙ y) in
                absurd (ok_no_stop (accepted_many b u room.is).0 (sym (i.run.left ∙ ap (before i.seen) e)))

-- The second pass with hoisting, from the tables ts of earlier items on: the records of the items so far are in the buffer, marked, and Q holds of them. Had none been marked, another buffer would be there, of which the laws above speak.
pub record HoistingItems (Q : List Record → Type 0) (ts : Tables) (b : ℕ) (u : List ℕ) (c at : ℕ) (old new : List ℕ) (to : ℕ) : Type 0 where
  pub plain : List ℕ
  pub writing : WritingItems b u c at old plain to
  pub true_items : All (ItemTrue b u (b + length u)) writing.seen
  pub bytes : new ≡ put at (catalogue_bytes layout (hoisted ts writing.seen)) old
  pub holds : Q (hoisted ts writing.seen)

-- records without words are none
none_counted : (l : List Record) → word_count layout l ≡ 0 → l ≡ []
none_counted [] e = refl
none_counted (r ∷ l) e = absurd (omega (arith, e, word_count_append (r ∷ []) l, record_some r))

-- an item without words changes nothing
wordless : (ts : Tables) (seen : List Item) (x : Item) → word_count layout (unhoisted_item x) ≡ 0 → hoisted ts (seen ++ (x ∷ [])) ≡ hoisted ts seen
wordless ts seen x e =
    let f = place_by (after_items ts seen) in
    let z : item_records 1 f x ≡ [] = none_counted (item_records 1 f x) (omega (arith, words_of_places 1 1 f (λ m. 0) x, e)) in
    hoisted_more ts seen x ∙ (ap (λ l. hoisted ts seen ++ l) z ∙ append-nil _)

module _ (ts : Tables) (b : ℕ) (u : List ℕ) (at : ℕ) (old : List ℕ) (room : Room (each unhoisted_item) all_items b u at (length old)) where
  start_seen : (placing_start b u at old room).seen ≡ []
  unfolding placing_start
  start_seen = writing_start_seen items_one item b u at old (many b u at old room)

  pub hoisting_start : {Q : List Record → Type 0} → Q [] → HoistingItems Q ts b u b at old old at
  unfolding hoisted
  hoisting_start {Q} h =
      let e = start_seen in
      record {
        plain = old;
        writing = placing_start b u at old room;
        true_items = subst (λ (l : List Item). All (ItemTrue b u (b + length u)) l) (sym e) tt;
        bytes = sym (ap (λ (l : List Item). put at (catalogue_bytes layout (hoisted ts l)) old) e ∙ rw (catalogue_bytes_none layout) (put_nothing at old));
        holds = subst (λ (l : List Item). Q (hoisted ts l)) (sym e) h;
      }

  module _ {Q : List Record → Type 0} {c : ℕ} {new : List ℕ} {to : ℕ} (i : HoistingItems Q ts b u c at old new to) where
    abbrev seen_now : List Item
    seen_now = i.writing.seen

    pub hoisting_place : to ≡ at + 8 * word_count layout (hoisted ts seen_now)
    hoisting_place = omega (arith, i.writing.place, hoisted_words ts seen_now)

    pub hoisting_same : length new ≡ length old
    hoisting_same = ap length i.bytes ∙ put_length at (catalogue_bytes layout (hoisted ts seen_now)) old (omega (arith, catalogue_bytes_length (hoisted ts seen_now), hoisting_place, i.writing.fits))

    -- the next item is true, and so are all with it
    true_next : {a : Item} {n : ℕ} → Took item b u c a n → ItemTrue b u (b + length u) a
    true_next h = item_true b u (b + length u) (rest_from b c u i.writing.run.from i.writing.run.inside) h.goes h.inside

    true_more : {a : Item} {n : ℕ} → Took item b u c a n → All (ItemTrue b u (b + length u)) (seen_now ++ (a ∷ []))
    true_more {a} h = all_append (ItemTrue b u (b + length u)) seen_now (a ∷ []) i.true_items (true_next h, tt)

    module _ {r : List ℕ} (q : Rest b u c r) {t : Blank} (w : BlankTo t c r) where
      module _ {v : List ℕ} (q' : Rest b u t.next v) where
        pub hoisting_room : (t.next ≡ b + length u → ⊥) → Room unhoisted_item (declaration (doc_of t.doc)) t.next v to (length new)
        hoisting_room e =
            let z : length i.plain ≡ length new = placing_same b u at old room i.writing ∙ sym hoisting_same in
            subst (λ (n : ℕ). Room unhoisted_item (declaration (doc_of t.doc)) t.next v to n) z (placing_room b u at old room i.writing q w q' e)

        module _ {o : Wrote} {new' : List ℕ} (g : Written unhoisted_item (declaration (doc_of t.doc)) t.next v to o new new') where
          -- the item's records after those before it, not yet marked
          pub hoisting_written : new' ≡ put at (catalogue_bytes layout (hoisted ts seen_now ++ unhoisted_item g.value)) old
          hoisting_written =
              let x = room_left in
              rw (catalogue_bytes_append layout (hoisted ts seen_now) (unhoisted_item g.value)) (
              put_on at to (catalogue_bytes layout (hoisted ts seen_now)) (catalogue_bytes layout (unhoisted_item g.value)) old new new'
              (omega (arith, hoisting_place, catalogue_bytes_length (hoisted ts seen_now)))
              (omega (arith, x, catalogue_bytes_length (unhoisted_item g.value)))
              i.bytes
              g.bytes
              )
            where
              room_left : to + 8 * word_count layout (unhoisted_item g.value) ≤ length old
              room_left = let y = (writing_fits items_one item b u at old (many b u at old room) i.writing item_consumes (there b u at old room i.writing q w q' g.is) (word_count layout (unhoisted_item g.value)) refl).0 in omega (arith, y, placing_same b u at old room i.writing)

          -- a turn, once they are marked
          plain_next : List ℕ
          plain_next = put to (catalogue_bytes layout (unhoisted_item g.value)) i.plain

          plain_is : plain_next ≡ put to (catalogue_bytes layout (unhoisted_item g.value)) i.plain
          unfolding plain_next
          plain_is = refl

          read_here : Took item b u c g.value o.next
          read_here = there b u at old room i.writing q w q' g.is

          pub hoisting_true : ItemTrue b u (b + length u) g.value
          hoisting_true = true_next read_here

          pub hoisting_more : {new'' : List ℕ} → new'' ≡ put at (catalogue_bytes layout (hoisted ts (seen_now ++ (g.value ∷ [])))) old → {R : List Record → Type 0} → R (hoisted ts (seen_now ++ (g.value ∷ []))) → HoistingItems R ts b u o.next at old new'' o.to × (c < o.next)
          hoisting_more {new''} e {R} d =
              let k = word_count layout (unhoisted_item g.value) in
              let x = writing_more items_one item b u at old (many b u at old room) i.writing item_consumes read_here k refl plain_next plain_is in
              let y = writing_fits items_one item b u at old (many b u at old room) i.writing item_consumes read_here k refl in
              let z = writing_more_seen items_one item b u at old (many b u at old room) i.writing item_consumes read_here k refl plain_next plain_is in
              let h : HoistingItems R ts b u o.next at old new'' (to + 8 * k) = record {
                plain = plain_next;
                writing = x;
                true_items = subst (λ (l : List Item). All (ItemTrue b u (b + length u)) l) (sym z) (true_more read_here);
                bytes = e ∙ ap (λ (l : List Item). put at (catalogue_bytes layout (hoisted ts l)) old) (sym z);
                holds = subst (λ (l : List Item). R (hoisted ts l)) (sym z) d;
              } in
              (subst (λ (n : ℕ). HoistingItems R ts b u o.next at old new'' n) (sym g.place) h, y.1.0)

      -- the end of the part, after blanks that may be an item of their own
      abbrev Ended : Type 0
      Ended = (k : Written (hoisted ts) all_items b u at (record { next = t.next; to = to }) old new) × (All (ItemTrue b u (b + length u)) k.value × Q (hoisted ts k.value))

      pub hoisting_ends : t.next ≡ b + length u → Ended
      hoisting_ends e = finish (ℕ_discrete t.next c)
        where
          done_with : (l : List Item) → ManyAt item b u t.next l → All (ItemTrue b u (b + length u)) l → hoisted ts l ≡ hoisted ts seen_now → Ended
          done_with l m h x =
              (record { value = l; is = all_ended m (end_rest q w e) (end_none q w e); place = omega (arith, hoisting_place, ap (word_count layout) x); bytes = i.bytes ∙ ap (λ (r : List Record). put at (catalogue_bytes layout r) old) (sym x) }, (h, subst Q (sym x) i.holds))

          finish : Dec (t.next ≡ c) → Ended
          finish (yes y) = done_with seen_now (subst (λ (n : ℕ). ManyAt item b u n seen_now) (sym y) i.writing.run) i.true_items refl
          finish (no y) =
              let s = count_took item_walks q (item_blank w (rest_within q (end_rest q w e) w.up) (end_lost q w e) y refl) in
              done_with (seen_now ++ (s.value ∷ [])) (many0_step item_consumes i.writing.run s.step).0 (true_more s.step) (wordless ts seen_now s.value s.words)
