-- Records come back from their bytes, over any layout that holds them.
use Prim.Native.Nat.{ℕ, zero, suc, ◌+◌, ◌*◌, ◌^◌, ◌/◌, ◌%◌, ◌≤◌, ◌<◌}
use mathlib.Core.Path.{◌≡◌, refl, sym, ◌∙◌, ap, subst}
use mathlib.Core.Bool.{Bool, true, false, ◌||◌, false≢true}
use mathlib.Core.List.{List, [], ◌∷◌, ◌++◌, map, append_assoc}
use native.Mathlib.Omega.{arith}
use lib.Dec.{leb}
use lib.ListN.{length, take, get_or, length-append}
use lib.Seq.{take_at, drop_at}
use borrow.Author.Tests.{eqb-true, leb-true, leb-false, le-leb, lt-leb}
use Rattle.lexing.specs.buffers.{each, big_endian, from_big_endian, words_bytes}
use Rattle.lexing.proofs.buffers.Laws.{each_one, big_endian_length, words_bytes_length}
use Rattle.items.specs.records.{Extent, Record, further_of_kind}
use Rattle.items.specs.layout.{packed, width, from_top, total, offset, size, Field, kind_field, place_field, maturity_field, doc_field, flags_field, offset_field, length_field, first_privilege_field, second_privilege_field, no_field, record_value, span_value, Cell, cell, filled, Layout, first_words, span_word, further_word, record_words, catalogue_words, catalogue_bytes, words_of_kind, word_count}
use Rattle.items.specs.stored.{word_at, words_at, field_number, same_field, has_field, widths, below, field_width, field_of, value_in, value_at, further_at, next_at, stands, Stored, stored, Split, whole, broken, then_split, split_from, split, stored_record, laid_out}
use Rattle.lexing.proofs.Truth.{All}
use Rattle.items.proofs.Packing.{Fit, value_back, word_back}
use Rattle.items.proofs.RecordWords.{catalogue_bytes_append}
use Rattle.items.proofs.RecordsFit.{ExtentIn, RecordFits, WordFits, LayoutFits, Word64, somewhere, words_fit, length_map, words_count}

-- Words in bytes.

-- words are in bytes from an offset on
abbrev pub WordsAt : List ℕ → List ℕ → ℕ → Type 0
WordsAt [] u o = Unit {0}
WordsAt (w ∷ ws) u o = (word_at u o ≡ w) × WordsAt ws u (o + 8)

pub words_stand : (ws : List ℕ) → All Word64 ws → (front tail : List ℕ) (o : ℕ) → length front ≡ o → WordsAt ws (front ++ (words_bytes ws ++ tail)) o
unfolding words_bytes each word_at
words_stand [] h front tail o e = tt
words_stand (w ∷ ws) h front tail o e =
    let x : (big_endian 8 w ++ each (big_endian 8) ws) ++ tail ≡ big_endian 8 w ++ (words_bytes ws ++ tail) = append_assoc (big_endian 8 w) _ tail in
    let y : front ++ ((big_endian 8 w ++ each (big_endian 8) ws) ++ tail) ≡ (front ++ big_endian 8 w) ++ (words_bytes ws ++ tail) = ap (λ l. front ++ l) x ∙ sym (append_assoc front (big_endian 8 w) _) in
    (ap (λ l. from_big_endian (take 8 l)) (drop_at front _ o e ∙ x) ∙ ap from_big_endian (take_at (big_endian 8 w) _ 8 (big_endian_length 8 w)) ∙ word_back 8 w h.0, subst (λ (l : List ℕ). WordsAt ws l (o + 8)) (sym y) (words_stand ws h.1 (front ++ big_endian 8 w) tail (o + 8) (length-append front (big_endian 8 w) ∙ rw (e, big_endian_length 8 w) refl)))

words_front : (a b u : List ℕ) (o : ℕ) → WordsAt (a ++ b) u o → WordsAt a u o
words_front [] b u o h = tt
words_front (w ∷ a) b u o h = (h.0, words_front a b u (o + 8) h.1)

words_rest : (a b u : List ℕ) (o : ℕ) → WordsAt (a ++ b) u o → WordsAt b u (o + 8 * length a)
words_rest [] b u o h = let z : o ≡ o + 8 * 0 = omega arith in subst (WordsAt b u) z h
words_rest (w ∷ a) b u o h = let z : o + 8 + 8 * length a ≡ o + 8 * suc (length a) = omega arith in subst (WordsAt b u) z (words_rest a b u (o + 8) h.1)

words_read : (ws u : List ℕ) (o : ℕ) → WordsAt ws u o → words_at (length ws) u o ≡ ws
unfolding words_at
words_read [] u o h = refl
words_read (w ∷ ws) u o h = rw (h.0, words_read ws u (o + 8) h.1) refl

-- Fields in words.

-- a field by its number
abbrev field_by : ℕ → Field
field_by k = get_or (kind_field ∷ place_field ∷ maturity_field ∷ doc_field ∷ flags_field ∷ offset_field ∷ length_field ∷ first_privilege_field ∷ second_privilege_field ∷ []) k no_field

by_number : (f : Field) → field_by (field_number f) ≡ f
unfolding field_number
by_number kind_field = refl
by_number place_field = refl
by_number maturity_field = refl
by_number doc_field = refl
by_number flags_field = refl
by_number offset_field = refl
by_number length_field = refl
by_number first_privilege_field = refl
by_number second_privilege_field = refl
by_number no_field = refl

pub same_is : (f g : Field) → same_field f g ≡ true → g ≡ f
unfolding same_field
same_is f g e = sym (by_number g) ∙ (ap field_by (sym (eqb-true (field_number f) (field_number g) e)) ∙ by_number f)

filled_width : (v : Field → ℕ) (row : List Cell) → width (filled v row) ≡ total (widths row)
unfolding width total
filled_width v [] = refl
filled_width v (cell w f ∷ row) = ap (λ k. w + k) (filled_width v row)

-- the value of a field comes back from a row's word, whatever is above it
pub field_back : (v : Field → ℕ) (f : Field) (row : List Cell) (z : ℕ) → has_field f row ≡ true → Fit (filled v row) → field_of f row (packed z (filled v row)) ≡ v f
unfolding has_field field_of below field_width packed
field_back v f [] z h k = absurd (false≢true h)
field_back v f (cell w g ∷ row) z h k = go (same_field f g) refl (λ i. field_back v f row (z * 2 ^ w + v g) i k.1)
  where
    go : (b : Bool) → same_field f g ≡ b → (has_field f row ≡ true → field_of f row (packed (z * 2 ^ w + v g) (filled v row)) ≡ v f)
        → packed (z * 2 ^ w + v g) (filled v row) / 2 ^ elim b [ true ↦ total (widths row) | false ↦ below f row ] % 2 ^ elim b [ true ↦ w | false ↦ field_width f row ] ≡ v f
    go true e r = rw (sym (filled_width v row)) (value_back z w (v g) (filled v row) k.0 k.1) ∙ ap v (same_is f g e)
    go false e r = r (subst (λ (b : Bool). (b || has_field f row) ≡ true) e h)

-- the same of a record's first words
value_back_in : (v : Field → ℕ) (f : Field) (rows : List (List Cell)) (u : List ℕ) (o : ℕ) → somewhere f rows ≡ true → All WordFits (map (filled v) rows) → WordsAt (map (packed 0) (map (filled v) rows)) u o → value_in rows f u o ≡ v f
unfolding somewhere value_in
value_back_in v f [] u o h k s = absurd (false≢true h)
value_back_in v f (row ∷ rows) u o h k s = go (has_field f row) refl (λ i. value_back_in v f rows u (o + 8) i k.1 s.1)
  where
    go : (b : Bool) → has_field f row ≡ b → (somewhere f rows ≡ true → value_in rows f u (o + 8) ≡ v f) → elim b [ true ↦ field_of f row (word_at u o) | false ↦ value_in rows f u (o + 8) ] ≡ v f
    go true e r = ap (field_of f row) s.0 ∙ field_back v f row 0 e k.0.fit
    go false e r = r (subst (λ (b : Bool). (b || somewhere f rows) ≡ true) e h)

-- a record of a text of n bytes is at an offset
pub record RecordAt (L : Layout) (n : ℕ) (u : List ℕ) (o : ℕ) : Type 0 where
  pub of : Record
  pub fits : RecordFits n of
  pub words : WordsAt (record_words L of) u o

module _ {L : Layout} {n : ℕ} (F : LayoutFits L n) where
  -- a layout has a first word
  some_head : (rows : List (List Cell)) (f : Field) → somewhere f rows ≡ true → 1 ≤ length rows
  unfolding somewhere
  some_head [] f h = absurd (false≢true h)
  some_head (row ∷ rows) f h = omega arith

  pub first_there : 1 ≤ length L.head
  unfolding same_field field_number
  first_there = some_head L.head kind_field (F.all_fields kind_field refl)

  pub words_some : (k : ℕ) → 1 ≤ words_of_kind L k
  unfolding words_of_kind
  words_some k = omega (arith, first_there)

  -- a span's offset and length
  pub span_back : (e : Extent) → (f : Field) → has_field f L.span ≡ true → ExtentIn n e → field_of f L.span (packed 0 (span_word L e)) ≡ span_value (offset e) (size e) f
  span_back e f h k = field_back (span_value (offset e) (size e)) f L.span 0 h (F.span_fits e k).fit

  module _ {u : List ℕ} {o : ℕ} (s : RecordAt L n u o) where
    pub value_is : (f : Field) → same_field f no_field ≡ false → value_at L f u o ≡ record_value s.of f
    unfolding value_at record_words
    value_is f e = value_back_in (record_value s.of) f L.head u o (F.all_fields f e) (F.first_fit s.of s.fits) (words_front (map (packed 0) (first_words L s.of)) (map (further_word L) s.of.further) u o s.words)

    pub kind_is : value_at L kind_field u o ≡ s.of.kind
    unfolding same_field field_number
    kind_is = value_is kind_field refl

    pub place_is : value_at L place_field u o ≡ s.of.place
    unfolding same_field field_number
    place_is = value_is place_field refl

    pub flags_are : value_at L flags_field u o ≡ from_top 7 s.of.flags
    unfolding same_field field_number
    flags_are = value_is flags_field refl

    pub offset_is : value_at L offset_field u o ≡ offset s.of.name
    unfolding same_field field_number
    offset_is = value_is offset_field refl

    pub length_is : value_at L length_field u o ≡ size s.of.name
    unfolding same_field field_number
    length_is = value_is length_field refl

    pub next_is : next_at L u o ≡ o + 8 * length (record_words L s.of)
    unfolding next_at
    next_is = ap (λ k. o + 8 * words_of_kind L k) kind_is ∙ ap (λ k. o + 8 * k) (sym (words_count L s.of s.fits))

    further_are : words_at (further_of_kind (value_at L kind_field u o)) u (o + 8 * length L.head) ≡ map (further_word L) s.of.further
    unfolding record_words
    further_are =
        let a = map (packed 0) (first_words L s.of) in
        let b = map (further_word L) s.of.further in
        let x : length a ≡ length L.head = length_map (packed 0) (first_words L s.of) ∙ length_map (filled (record_value s.of)) L.head in
        let y : length b ≡ further_of_kind (value_at L kind_field u o) = length_map (further_word L) s.of.further ∙ s.fits.further_count ∙ ap further_of_kind (sym kind_is) in
        rw (← x, ← y) (words_read b u _ (words_rest a b u o s.words))

    pub stored_is : stored L u o ≡ stored_record L o s.of
    unfolding stored stored_record same_field field_number
    stored_is = rw (further_are, kind_is, place_is, value_is maturity_field refl, value_is doc_field refl, flags_are, offset_is, length_is, value_is first_privilege_field refl, value_is second_privilege_field refl) refl

-- a further word of a record, by its index
words_index : (n : ℕ) (u : List ℕ) (o k : ℕ) → k < n → get_or (words_at n u o) k 0 ≡ word_at u (o + 8 * k)
unfolding words_at
words_index zero u o k h = absurd (omega arith)
words_index (suc n) u o zero h = let z : o ≡ o + 8 * 0 = omega arith in ap (word_at u) z
words_index (suc n) u o (suc k) h = let z : o + 8 + 8 * k ≡ o + 8 * suc k = omega arith in words_index n u (o + 8) k (omega arith) ∙ ap (word_at u) z

pub further_stored : (L : Layout) (u : List ℕ) (o k : ℕ) → k < further_of_kind (value_at L kind_field u o) → get_or (stored L u o).further k 0 ≡ further_at L u o k
unfolding stored further_at
further_stored L u o k h = let z : o + 8 * length L.head + 8 * k ≡ o + 8 * (length L.head + k) = omega arith in words_index _ u (o + 8 * length L.head) k h ∙ ap (word_at u) z

-- Splitting.

module _ (L : Layout) (u : List ℕ) where
  split_end : (n o : ℕ) → length u ≤ o → split_from L u n o ≡ whole []
  unfolding split_from
  split_end zero o h = refl
  split_end (suc n) o h = rw (split_from, le-leb (length u) o h) refl

  split_on : (n o : ℕ) → o < length u → stands L u o ≡ true → split_from L u (suc n) o ≡ then_split (stored L u o) (split_from L u n (next_at L u o))
  unfolding split_from
  split_on n o h s = rw (split_from, lt-leb (length u) o h, s) refl

  split_stop : (n o : ℕ) → o < length u → stands L u o ≡ false → split_from L u (suc n) o ≡ broken [] o
  unfolding split_from
  split_stop n o h s = rw (split_from, lt-leb (length u) o h, s) refl

  module _ (some : 1 ≤ length L.head) where
    next_up : (o : ℕ) → o < next_at L u o
    unfolding next_at words_of_kind
    next_up o = omega (arith, some)

    -- how many records there are at the most doesn't matter, if it is enough
    split_enough : (n m o : ℕ) → length u ≤ o + n → length u ≤ o + m → split_from L u n o ≡ split_from L u m o
    split_enough zero m o h k = split_end zero o (omega (arith, h)) ∙ sym (split_end m o (omega (arith, h)))
    split_enough (suc n) zero o h k = split_end (suc n) o (omega (arith, k)) ∙ sym (split_end zero o (omega (arith, k)))
    split_enough (suc n) (suc m) o h k = go (leb (length u) o) refl (stands L u o) refl (split_enough n m (next_at L u o) (omega (arith, h, next_up o)) (omega (arith, k, next_up o)))
      where
        go : (b : Bool) → leb (length u) o ≡ b → (c : Bool) → stands L u o ≡ c → split_from L u n (next_at L u o) ≡ split_from L u m (next_at L u o) → split_from L u (suc n) o ≡ split_from L u (suc m) o
        go true e c f r = split_end (suc n) o (leb-true (length u) o e) ∙ sym (split_end (suc m) o (leb-true (length u) o e))
        go false e true f r = let z = leb-false (length u) o e in split_on n o z f ∙ (ap (then_split (stored L u o)) r ∙ sym (split_on m o z f))
        go false e false f r = let z = leb-false (length u) o e in split_stop n o z f ∙ sym (split_stop m o z f)

    -- what is left from an offset on
    abbrev pub split_rest : ℕ → Split
    split_rest o = split_from L u (length u) o

    -- a walk from record to record: at the end, over a record, and where none is
    pub rest_end : (o : ℕ) → length u ≤ o → split_rest o ≡ whole []
    rest_end o h = split_end (length u) o h

    pub rest_on : (o : ℕ) → o < length u → stands L u o ≡ true → split_rest o ≡ then_split (stored L u o) (split_rest (next_at L u o))
    rest_on o h s = split_enough (length u) (suc (length u)) o (omega arith) (omega arith) ∙ split_on (length u) o h s

    pub rest_broken : (o : ℕ) → o < length u → stands L u o ≡ false → split_rest o ≡ broken [] o
    rest_broken o h s = split_enough (length u) (suc (length u)) o (omega arith) (omega arith) ∙ split_stop (length u) o h s

-- records one after the other, by their index
pub laid_length : (L : Layout) (l : List Record) (o : ℕ) → length (laid_out L o l) ≡ length l
unfolding laid_out
laid_length L [] o = refl
laid_length L (r ∷ l) o = ap suc (laid_length L l _)

pub laid_at : (L : Layout) (l : List Record) (o i : ℕ) (d : Record) (e : Stored) → i < length l → get_or (laid_out L o l) i e ≡ stored_record L (o + 8 * word_count L (take i l)) (get_or l i d)
unfolding laid_out word_count catalogue_words each
laid_at L [] o i d e h = absurd (omega arith)
laid_at L (r ∷ l) o zero d e h = let z : o ≡ o + 8 * 0 = omega arith in ap (λ k. stored_record L k r) z
laid_at L (r ∷ l) o (suc i) d e h =
    let z : o + 8 * length (record_words L r) + 8 * length (each (record_words L) (take i l)) ≡ o + 8 * length (record_words L r ++ each (record_words L) (take i l)) = omega (arith, length-append (record_words L r) (each (record_words L) (take i l))) in
    laid_at L l (o + 8 * length (record_words L r)) i d e (omega arith) ∙ ap (λ k. stored_record L k (get_or l i d)) z

module _ {L : Layout} {n : ℕ} (F : LayoutFits L n) where
  -- a record in bytes
  pub one_record : (r : Record) → catalogue_bytes L (r ∷ []) ≡ words_bytes (record_words L r)
  unfolding catalogue_bytes catalogue_words
  one_record r = ap words_bytes (each_one (record_words L) r)

  abbrev pub record_there : (r : Record) → RecordFits n r → (front tail u : List ℕ) (o : ℕ) → u ≡ front ++ (catalogue_bytes L (r ∷ []) ++ tail) → length front ≡ o → RecordAt L n u o
  record_there r h front tail u o b e = record { of = r; fits = h; words = subst (λ (x : List ℕ). WordsAt (record_words L r) x o) (sym (b ∙ ap (λ x. front ++ (x ++ tail)) (one_record r))) (words_stand (record_words L r) (words_fit F r h) front tail o e) }

  catalogue_none : length (catalogue_bytes L []) ≡ 0
  unfolding catalogue_bytes catalogue_words words_bytes each
  catalogue_none = refl

  taken : (r : Record) → RecordFits n r → 1 ≤ length (record_words L r)
  taken r h = rw (words_count L r h) (words_some F r.kind)

  module _ {u : List ℕ} {o : ℕ} (s : RecordAt L n u o) where
    pub stands_there : o + 8 * length (record_words L s.of) ≤ length u → stands L u o ≡ true
    unfolding stands
    stands_there h = rw (next_is F s, kind_is F s, s.fits.kind_known, le-leb (o + 8 * length (record_words L s.of)) (length u) h) refl

    -- a step of splitting
    split_over : (k : ℕ) (l : List Stored) → o + 8 * length (record_words L s.of) ≤ length u → split_from L u k (o + 8 * length (record_words L s.of)) ≡ whole l → split_from L u (suc k) o ≡ whole (stored_record L o s.of ∷ l)
    unfolding then_split
    split_over k l h e = split_on L u k o (omega (arith, h, taken s.of s.fits)) (stands_there h) ∙ rw (next_is F s, e, stored_is F s) refl

  long : (r : Record) (front tail u : List ℕ) (o : ℕ) → u ≡ front ++ (catalogue_bytes L (r ∷ []) ++ tail) → length front ≡ o → length u ≡ o + 8 * length (record_words L r) + length tail
  long r front tail u o b f = omega (arith, ap length b, length-append front (catalogue_bytes L (r ∷ []) ++ tail), length-append (catalogue_bytes L (r ∷ [])) tail, ap length (one_record r), words_bytes_length (record_words L r), f)

  split_laid : (l : List Record) → All (RecordFits n) l → (u front : List ℕ) (k o : ℕ) → u ≡ front ++ catalogue_bytes L l → length front ≡ o → length u ≤ o + k → split_from L u k o ≡ whole (laid_out L o l)
  unfolding laid_out
  split_laid [] h u front k o e f g = split_end L u k o (omega (arith, ap length e, length-append front (catalogue_bytes L []), catalogue_none, f))
  split_laid (r ∷ l) h u front zero o e f g = absurd (omega (arith, g, long r front (catalogue_bytes L l) u o (e ∙ ap (λ x. front ++ x) (catalogue_bytes_append L (r ∷ []) l)) f, taken r h.0))
  split_laid (r ∷ l) h u front (suc k) o e f g =
      let w = catalogue_bytes L (r ∷ []) in
      let b : u ≡ front ++ (w ++ catalogue_bytes L l) = e ∙ ap (λ x. front ++ x) (catalogue_bytes_append L (r ∷ []) l) in
      let m = long r front (catalogue_bytes L l) u o b f in
      let i = split_laid l h.1 u (front ++ w) k (o + 8 * length (record_words L r)) (b ∙ sym (append_assoc front w _)) (omega (arith, length-append front w, ap length (one_record r), words_bytes_length (record_words L r), f)) (omega (arith, g, taken r h.0)) in
      split_over (record_there r h.0 front (catalogue_bytes L l) u o b f) k _ (omega (arith, m)) i

  -- what is written splits into its records, each with its own values at its offset
  pub split_written : (l : List Record) → All (RecordFits n) l → split L (catalogue_bytes L l) ≡ whole (laid_out L 0 l)
  unfolding split
  split_written l h = split_laid l h (catalogue_bytes L l) [] (length (catalogue_bytes L l)) 0 refl refl (omega arith)
