-- Records read back from a catalogue's bytes, over a layout.
use Rattle.std.specs.Prelude.{ℕ, zero, suc, ◌+◌, ◌*◌, ◌^◌, ◌/◌, ◌%◌, Bool, true, false, ◌&&◌, ◌||◌, List, [], ◌∷◌, map, eqb, leb, length, take, drop, get_or}
use Rattle.lexing.specs.buffers.{from_big_endian, big_endian, put}
use Rattle.items.specs.records.{Record, further_of_kind, known_kind}
use Rattle.items.specs.layout.{from_top, offset, size, total, Field, kind_field, place_field, maturity_field, doc_field, flags_field, offset_field, length_field, first_privilege_field, second_privilege_field, no_field, Cell, cell, Layout, further_word, record_words, words_of_kind}

-- the word at an offset: eight bytes, the most significant first
unfoldable pub word_at : List ℕ → ℕ → ℕ
word_at u o = from_big_endian (take 8 (drop o u))

-- n words from an offset on
unfoldable pub words_at : (n : ℕ) → List ℕ → ℕ → List ℕ
words_at zero u o = []
words_at (suc n) u o = word_at u o ∷ words_at n u (o + 8)

-- Fields of a word that a row lays out.

unfoldable pub field_number : Field → ℕ
field_number kind_field = 0
field_number place_field = 1
field_number maturity_field = 2
field_number doc_field = 3
field_number flags_field = 4
field_number offset_field = 5
field_number length_field = 6
field_number first_privilege_field = 7
field_number second_privilege_field = 8
field_number no_field = 9

unfoldable pub same_field : Field → Field → Bool
same_field f g = eqb (field_number f) (field_number g)

unfoldable pub has_field : Field → List Cell → Bool
has_field f [] = false
has_field f (cell w g ∷ row) = same_field f g || has_field f row

abbrev pub widths : List Cell → List ℕ
widths [] = []
widths (cell w f ∷ row) = w ∷ widths row

-- the bits below a field
unfoldable pub below : Field → List Cell → ℕ
below f [] = 0
below f (cell w g ∷ row) = elim (same_field f g) [ true ↦ total (widths row) | false ↦ below f row ]

-- its own bits
unfoldable pub field_width : Field → List Cell → ℕ
field_width f [] = 0
field_width f (cell w g ∷ row) = elim (same_field f g) [ true ↦ w | false ↦ field_width f row ]

unfoldable pub field_of : Field → List Cell → (word : ℕ) → ℕ
field_of f row z = z / 2 ^ below f row % 2 ^ field_width f row

-- A record at an offset.

-- a field of its first words, the rows of which are these
unfoldable pub value_in : List (List Cell) → Field → List ℕ → ℕ → ℕ
value_in [] f u o = 0
value_in (row ∷ rows) f u o = elim (has_field f row) [ true ↦ field_of f row (word_at u o) | false ↦ value_in rows f u (o + 8) ]

unfoldable pub value_at : Layout → Field → List ℕ → ℕ → ℕ
value_at L f u o = value_in L.head f u o

-- its further words, from 0
unfoldable pub further_at : Layout → List ℕ → ℕ → (k : ℕ) → ℕ
further_at L u o k = word_at u (o + 8 * (length L.head + k))

-- the offset after it
unfoldable pub next_at : Layout → List ℕ → ℕ → ℕ
next_at L u o = o + 8 * words_of_kind L (value_at L kind_field u o)

-- whether it is whole and of a known kind
unfoldable pub stands : Layout → List ℕ → ℕ → Bool
stands L u o = known_kind (value_at L kind_field u o) && leb (next_at L u o) (length u)

-- a record by its offset, the values in its first words and its further words
pub record Stored : Type 0 where
  pub at : ℕ
  pub kind : ℕ
  pub place : ℕ
  pub maturity : ℕ
  pub doc_present : ℕ
  pub flags : ℕ
  pub name_offset : ℕ
  pub name_length : ℕ
  pub first_privilege : ℕ
  pub second_privilege : ℕ
  pub further : List ℕ

unfoldable pub stored : Layout → List ℕ → ℕ → Stored
stored L u o = record {
  at = o;
  kind = value_at L kind_field u o;
  place = value_at L place_field u o;
  maturity = value_at L maturity_field u o;
  doc_present = value_at L doc_field u o;
  flags = value_at L flags_field u o;
  name_offset = value_at L offset_field u o;
  name_length = value_at L length_field u o;
  first_privilege = value_at L first_privilege_field u o;
  second_privilege = value_at L second_privilege_field u o;
  further = words_at (further_of_kind (value_at L kind_field u o)) u (o + 8 * length L.head);
}

-- A catalogue's bytes.

-- whole records of known kinds, or those before the first that is none, and its offset
pub data Split : Type 0 where
  whole : List Stored → Split
  broken : List Stored → ℕ → Split

unfoldable pub then_split : Stored → Split → Split
then_split r (whole l) = whole (r ∷ l)
then_split r (broken l o) = broken (r ∷ l) o

-- from an offset on, n records at the most
unfoldable pub split_from : Layout → List ℕ → (n o : ℕ) → Split
split_from L u zero o = whole []
split_from L u (suc n) o = elim (leb (length u) o) [ true ↦ whole [] | false ↦ elim (stands L u o) [ true ↦ then_split (stored L u o) (split_from L u n (next_at L u o)) | false ↦ broken [] o ] ]

-- a record takes a byte at least
unfoldable pub split : Layout → List ℕ → Split
split L u = split_from L u (length u) 0

-- Records as they are one after the other, from an offset on.

unfoldable pub stored_record : Layout → ℕ → Record → Stored
stored_record L o r = record {
  at = o;
  kind = r.kind;
  place = r.place;
  maturity = r.maturity;
  doc_present = r.doc_present;
  flags = from_top 7 r.flags;
  name_offset = offset r.name;
  name_length = size r.name;
  first_privilege = r.first_privilege;
  second_privilege = r.second_privilege;
  further = map (further_word L) r.further;
}

unfoldable pub laid_out : Layout → ℕ → List Record → List Stored
laid_out L o [] = []
laid_out L o (r ∷ l) = stored_record L o r ∷ laid_out L (o + 8 * length (record_words L r)) l

-- the bytes where the record at an offset, of place 0, has place p; a place is in the first word
unfoldable pub placed : Layout → ℕ → List ℕ → ℕ → List ℕ
placed L p u o = put o (big_endian 8 (word_at u o + p * 2 ^ below place_field (get_or L.head 0 []))) u
