-- Moving a record by d changes, in its bytes, the offsets that are present, and no other bit.
use Prim.Native.Nat.{ℕ, ◌+◌, ◌^◌, ◌<◌}
use mathlib.Core.Path.{◌≡◌, refl, sym, ◌∙◌, ap}
use mathlib.Core.Bool.{Bool, true, false, true≢false}
use mathlib.Core.List.{List, [], ◌∷◌, ◌++◌, map}
use native.Mathlib.Omega.{arith}
use Rattle.lexing.specs.buffers.{words_bytes}
use Rattle.items.specs.records.{Extent, absent, at, Bits, bits, Further, value, spanned, Record, moved_extent, moved_further, moved}
use Rattle.items.specs.layout.{packed, total, unpacked, offset, size, Field, kind_field, place_field, maturity_field, doc_field, flags_field, offset_field, length_field, first_privilege_field, second_privilege_field, no_field, valued, record_value, Cell, cell, filled, Layout, first_words, further_word, record_words, catalogue_bytes}
use Rattle.items.specs.stored.{field_number, same_field}
use Rattle.lexing.proofs.Truth.{All}
use Rattle.items.proofs.Packing.{bits_of, width_total, unpack_pack}
use Rattle.items.proofs.RecordsFit.{ExtentIn, FurtherIn, RecordFits, WordFits, LayoutFits, word_less, length_map}
use Rattle.items.proofs.ReadBack.{same_is, one_record}

-- What a reader must believe.

-- a value of a word by its width: moving leaves it, or adds d to it
pub data Moving : Type 0 where
  stays : ℕ → Moving
  moves : ℕ → Moving

abbrev pub moving_width : Moving → ℕ
moving_width (stays w) = w
moving_width (moves w) = w

-- the values of a word, moved by d
abbrev pub raised : ℕ → List Moving → List Bits → List Bits
raised d [] l = l
raised d (m ∷ ms) [] = []
raised d (stays w ∷ ms) (bits v x ∷ l) = bits v x ∷ raised d ms l
raised d (moves w ∷ ms) (bits v x ∷ l) = bits v (d + x) ∷ raised d ms l

-- a word and the word after the move: the values are all of its 64 bits, and those that move are greater by d
pub record WordMoves (d : ℕ) (ms : List Moving) (before after : ℕ) : Type 0 where
  pub full : total (map moving_width ms) ≡ 64
  pub before_fits : before < 2 ^ 64
  pub after_fits : after < 2 ^ 64
  pub values : unpacked (map moving_width ms) after ≡ raised d ms (unpacked (map moving_width ms) before)

abbrev pub WordsMove : ℕ → List (List Moving) → (before after : List ℕ) → Type 0
WordsMove d [] [] [] = Unit {0}
WordsMove d [] [] (x ∷ xs) = ⊥
WordsMove d [] (w ∷ ws) xs = ⊥
WordsMove d (m ∷ ms) [] xs = ⊥
WordsMove d (m ∷ ms) (w ∷ ws) [] = ⊥
WordsMove d (m ∷ ms) (w ∷ ws) (x ∷ xs) = WordMoves d m w x × WordsMove d ms ws xs

-- bytes, and the bytes after the move, word by word
pub record BytesMove (d : ℕ) (ms : List (List Moving)) (before after : List ℕ) : Type 0 where
  pub words : List ℕ
  pub words_after : List ℕ
  pub old : before ≡ words_bytes words
  pub new : after ≡ words_bytes words_after
  pub each_word : WordsMove d ms words words_after

-- of a row of cells the offset moves, if the extent is present
abbrev pub cell_moving : Extent → ℕ → Field → Moving
cell_moving absent w f = stays w
cell_moving (at o n) w f = elim (same_field f offset_field) [ true ↦ moves w | false ↦ stays w ]

abbrev pub row_moving : Extent → List Cell → List Moving
row_moving e [] = []
row_moving e (cell w f ∷ row) = cell_moving e w f ∷ row_moving e row

-- a number stays
abbrev pub further_moving : Layout → Further → List Moving
further_moving L (value n) = stays 64 ∷ []
further_moving L (spanned e) = row_moving e L.span

abbrev pub record_moving : Layout → Record → List (List Moving)
record_moving L r = map (row_moving r.name) L.head ++ map (further_moving L) r.further

-- The proof.

-- every field but the offset is the same, and the offset is greater by d if the extent is present
module _ (d : ℕ) where
  abbrev Shifted : Extent → (v v' : Field → ℕ) → Type 0
  Shifted absent v v' = (f : Field) → v' f ≡ v f
  Shifted (at o n) v v' = (v' offset_field ≡ d + v offset_field) × ((f : Field) → same_field f offset_field ≡ false → v' f ≡ v f)

  valued_moved : (k p m c f x y : ℕ) (e : Extent) → Shifted e (valued k p m c f (offset e) (size e) x y) (valued k p m c f (offset (moved_extent d e)) (size (moved_extent d e)) x y)
  unfolding moved_extent offset size same_field field_number
  valued_moved k p m c f x y absent = λ g. refl
  valued_moved k p m c f x y (at o n) = (refl, go)
    where
      go : (g : Field) → same_field g offset_field ≡ false → valued k p m c f (d + o) n x y g ≡ valued k p m c f o n x y g
      go kind_field h = refl
      go place_field h = refl
      go maturity_field h = refl
      go doc_field h = refl
      go flags_field h = refl
      go offset_field h = absurd (true≢false h)
      go length_field h = refl
      go first_privilege_field h = refl
      go second_privilege_field h = refl
      go no_field h = refl

  module _ (v v' : Field → ℕ) where
    filled_raised : (e : Extent) → Shifted e v v' → (row : List Cell) → filled v' row ≡ raised d (row_moving e row) (filled v row)
    filled_raised e h [] = refl
    filled_raised absent h (cell w f ∷ row) = rw (h f, filled_raised absent h row) refl
    filled_raised (at o n) h (cell w f ∷ row) = go (same_field f offset_field) refl (filled_raised (at o n) h row)
      where
        go : (b : Bool) → same_field f offset_field ≡ b → filled v' row ≡ raised d (row_moving (at o n) row) (filled v row)
            → bits w (v' f) ∷ filled v' row ≡ raised d (elim b [ true ↦ moves w | false ↦ stays w ] ∷ row_moving (at o n) row) (bits w (v f) ∷ filled v row)
        go true e i = rw (sym (same_is f offset_field e), h.0, i) refl
        go false e i = rw (h.1 f e, i) refl

  cell_width : (e : Extent) (w : ℕ) (f : Field) → moving_width (cell_moving e w f) ≡ w
  cell_width absent w f = refl
  cell_width (at o n) w f = go (same_field f offset_field)
    where
      go : (b : Bool) → moving_width (elim b [ true ↦ moves w | false ↦ stays w ]) ≡ w
      go true = refl
      go false = refl

  row_widths : (e : Extent) (v : Field → ℕ) (row : List Cell) → bits_of (filled v row) ≡ map moving_width (row_moving e row)
  row_widths e v [] = refl
  row_widths e v (cell w f ∷ row) = rw (cell_width e w f, row_widths e v row) refl

  row_moves : (e : Extent) (v v' : Field → ℕ) → Shifted e v v' → (row : List Cell) → WordFits (filled v row) → WordFits (filled v' row) → WordMoves d (row_moving e row) (packed 0 (filled v row)) (packed 0 (filled v' row))
  row_moves e v v' h row a b =
      record {
        full = ap total (sym (row_widths e v row)) ∙ sym (width_total (filled v row)) ∙ a.full;
        before_fits = word_less (filled v row) a;
        after_fits = word_less (filled v' row) b;
        values = ap (λ l. unpacked l (packed 0 (filled v' row))) (sym (row_widths e v' row)) ∙ (unpack_pack 0 (filled v' row) b.fit ∙ (filled_raised v v' e h row ∙ ap (raised d (row_moving e row)) (sym (ap (λ l. unpacked l (packed 0 (filled v row))) (sym (row_widths e v row)) ∙ unpack_pack 0 (filled v row) a.fit))));
      }

  heads_move : (e : Extent) (v v' : Field → ℕ) → Shifted e v v' → (rows : List (List Cell)) → All WordFits (map (filled v) rows) → All WordFits (map (filled v') rows) → WordsMove d (map (row_moving e) rows) (map (packed 0) (map (filled v) rows)) (map (packed 0) (map (filled v') rows))
  heads_move e v v' h [] a b = tt
  heads_move e v v' h (row ∷ rows) a b = (row_moves e v v' h row a.0 b.0, heads_move e v v' h rows a.1 b.1)

  words_join : (ms ns : List (List Moving)) (ws vs xs ys : List ℕ) → WordsMove d ms ws xs → WordsMove d ns vs ys → WordsMove d (ms ++ ns) (ws ++ vs) (xs ++ ys)
  words_join [] ns [] vs [] ys h k = k
  words_join [] ns [] vs (x ∷ xs) ys h k = absurd h
  words_join [] ns (w ∷ ws) vs xs ys h k = absurd h
  words_join (m ∷ ms) ns [] vs xs ys h k = absurd h
  words_join (m ∷ ms) ns (w ∷ ws) vs [] ys h k = absurd h
  words_join (m ∷ ms) ns (w ∷ ws) vs (x ∷ xs) ys h k = (h.0, words_join ms ns ws vs xs ys h.1 k)

  module _ {L : Layout} {n : ℕ} (F : LayoutFits L n) where
    furthers_move : (l : List Further) → All (FurtherIn n) l → All (FurtherIn n) (map (moved_further d) l) → WordsMove d (map (further_moving L) l) (map (further_word L) l) (map (further_word L) (map (moved_further d) l))
    unfolding further_word moved_further unpacked total
    furthers_move [] a b = tt
    furthers_move (value k ∷ l) a b = (record { full = refl; before_fits = a.0; after_fits = b.0; values = refl }, furthers_move l a.1 b.1)
    furthers_move (spanned e ∷ l) a b = (row_moves e _ _ (valued_moved 0 0 0 0 0 0 0 e) L.span (F.span_fits e a.0) (F.span_fits (moved_extent d e) b.0), furthers_move l a.1 b.1)

    -- a record, where both it and the moved one are of a text of n bytes
    pub record_moves : (r : Record) → RecordFits n r → RecordFits n (moved d r) → BytesMove d (record_moving L r) (catalogue_bytes L (r ∷ [])) (catalogue_bytes L (moved d r ∷ []))
    unfolding moved record_words
    record_moves r a b =
        record {
          words = record_words L r;
          words_after = record_words L (moved d r);
          old = one_record F r;
          new = one_record F (moved d r);
          each_word = words_join (map (row_moving r.name) L.head) (map (further_moving L) r.further) (map (packed 0) (first_words L r)) (map (further_word L) r.further) (map (packed 0) (first_words L (moved d r))) (map (further_word L) (moved d r).further)
              (heads_move r.name (record_value r) (record_value (moved d r)) (valued_moved _ _ _ _ _ _ _ r.name) L.head (F.first_fit r a) (F.first_fit (moved d r) b))
              (furthers_move r.further a.further_fit b.further_fit);
        }

-- a text that is longer by d holds the record and the moved one
extent_wider : (d n : ℕ) (e : Extent) → ExtentIn n e → ExtentIn (d + n) e
extent_wider d n absent h = tt
extent_wider d n (at o k) h = omega (arith, h)

extent_moved : (d n : ℕ) (e : Extent) → ExtentIn n e → ExtentIn (d + n) (moved_extent d e)
unfolding moved_extent
extent_moved d n absent h = tt
extent_moved d n (at o k) h = omega (arith, h)

further_wider : (d n : ℕ) (l : List Further) → All (FurtherIn n) l → All (FurtherIn (d + n)) l
further_wider d n [] h = tt
further_wider d n (value v ∷ l) h = (h.0, further_wider d n l h.1)
further_wider d n (spanned e ∷ l) h = (extent_wider d n e h.0, further_wider d n l h.1)

further_moved : (d n : ℕ) (l : List Further) → All (FurtherIn n) l → All (FurtherIn (d + n)) (map (moved_further d) l)
unfolding moved_further
further_moved d n [] h = tt
further_moved d n (value v ∷ l) h = (h.0, further_moved d n l h.1)
further_moved d n (spanned e ∷ l) h = (extent_moved d n e h.0, further_moved d n l h.1)

pub wider_fits : (d : ℕ) {n : ℕ} (r : Record) → RecordFits n r → RecordFits (d + n) r
wider_fits d {n} r h = record { kind_known = h.kind_known; place_fits = h.place_fits; maturity_fits = h.maturity_fits; doc_fits = h.doc_fits; flags_fit = h.flags_fit; flags_width = h.flags_width; name_inside = extent_wider d n r.name h.name_inside; first_fits = h.first_fits; second_fits = h.second_fits; further_fit = further_wider d n r.further h.further_fit; further_count = h.further_count }

pub moved_fits : (d : ℕ) {n : ℕ} (r : Record) → RecordFits n r → RecordFits (d + n) (moved d r)
unfolding moved
moved_fits d {n} r h = record { kind_known = h.kind_known; place_fits = h.place_fits; maturity_fits = h.maturity_fits; doc_fits = h.doc_fits; flags_fit = h.flags_fit; flags_width = h.flags_width; name_inside = extent_moved d n r.name h.name_inside; first_fits = h.first_fits; second_fits = h.second_fits; further_fit = further_moved d n r.further h.further_fit; further_count = length_map (moved_further d) r.further ∙ h.further_count }
