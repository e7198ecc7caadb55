-- Records as words, and words as bytes: packed most significant bit first.
use Rattle.std.specs.Prelude.{ℕ, ◌+◌, ◌-◌, ◌*◌, ◌^◌, ◌/◌, ◌%◌, List, [], ◌∷◌, ◌++◌, map, length}
use Rattle.lexing.specs.buffers.{each, words_bytes}
use Rattle.items.specs.records.{Extent, absent, at, Bits, bits, Further, value, spanned, Record, further_of_kind}

-- values one after the other, most significant bit first; z is above them
unfoldable pub packed : ℕ → List Bits → ℕ
packed z [] = z
packed z (bits w v ∷ l) = packed (z * 2 ^ w + v) l

unfoldable pub width : List Bits → ℕ
width [] = 0
width (bits w v ∷ l) = w + width l

-- in n bits from the top, the rest zero
unfoldable pub from_top : ℕ → List Bits → ℕ
from_top n l = packed 0 l * 2 ^ (n - width l)

-- the other way: the values of a word by their widths
unfoldable pub total : List ℕ → ℕ
total [] = 0
total (w ∷ ws) = w + total ws

unfoldable pub unpacked : List ℕ → ℕ → List Bits
unpacked [] z = []
unpacked (w ∷ ws) z = bits w (z / 2 ^ total ws % 2 ^ w) ∷ unpacked ws z

-- absent is zero
unfoldable pub offset : Extent → ℕ
offset absent = 0
offset (at o n) = o

unfoldable pub size : Extent → ℕ
size absent = 0
size (at o n) = n

-- What the first words of a record hold; an offset and a length are its name's. In the word of a span they are the span's.
pub data Field : Type 0 where
  kind_field : Field
  place_field : Field
  maturity_field : Field
  doc_field : Field
  flags_field : Field
  offset_field : Field
  length_field : Field
  first_privilege_field : Field
  second_privilege_field : Field
  -- zeros
  no_field : Field

-- each field's value
abbrev pub valued : (kind place maturity doc flags offset length first second : ℕ) → Field → ℕ
valued k p m d f o n x y kind_field = k
valued k p m d f o n x y place_field = p
valued k p m d f o n x y maturity_field = m
valued k p m d f o n x y doc_field = d
valued k p m d f o n x y flags_field = f
valued k p m d f o n x y offset_field = o
valued k p m d f o n x y length_field = n
valued k p m d f o n x y first_privilege_field = x
valued k p m d f o n x y second_privilege_field = y
valued k p m d f o n x y no_field = 0

abbrev pub record_value : Record → Field → ℕ
record_value r = valued r.kind r.place r.maturity r.doc_present (from_top 7 r.flags) (offset r.name) (size r.name) r.first_privilege r.second_privilege

abbrev pub span_value : (offset length : ℕ) → Field → ℕ
span_value o n = valued 0 0 0 0 0 o n 0 0

-- a field in so many bits; a row of cells, from the top, is a word
pub data Cell : Type 0 where
  cell : ℕ → Field → Cell

abbrev pub filled : (Field → ℕ) → List Cell → List Bits
filled v [] = []
filled v (cell w f ∷ row) = bits w (v f) ∷ filled v row

-- how a record's first words and a span are laid out
pub record Layout : Type 0 where
  pub head : List (List Cell)
  pub span : List Cell

abbrev pub first_words : Layout → Record → List (List Bits)
first_words L r = map (filled (record_value r)) L.head

abbrev pub span_word : Layout → Extent → List Bits
span_word L e = filled (span_value (offset e) (size e)) L.span

-- the bits of an offset and of a length
abbrev pub offset_width : ℕ
offset_width = 20

-- document 01's first word, from the top; w is the width of an offset and of a length
abbrev pub first_cells : (w : ℕ) → List Cell
first_cells w =
    cell 8 kind_field ∷ cell 2 place_field ∷ cell 2 maturity_field ∷ cell 1 doc_field ∷ cell 7 flags_field
    ∷ cell w offset_field ∷ cell w length_field ∷ cell 2 first_privilege_field ∷ cell 2 second_privilege_field ∷ []

abbrev pub first_row : (w kind place maturity doc flags name length first second : ℕ) → List Bits
first_row w k p m d f o n x y = filled (valued k p m d f o n x y) (first_cells w)

-- a span: offset, length, zeros
abbrev pub span_cells : (w : ℕ) → List Cell
span_cells w = cell w offset_field ∷ cell w length_field ∷ cell (64 - 2 * w) no_field ∷ []

abbrev pub span_row : (w offset length : ℕ) → List Bits
span_row w o n = filled (span_value o n) (span_cells w)

-- document 01's: a record has one first word
abbrev pub layout_20 : Layout
layout_20 = record { head = first_cells offset_width ∷ []; span = span_cells offset_width }

-- the layout in force, and how many first words a record has in it
unfoldable pub layout : Layout
layout = layout_20

abbrev pub head_words : ℕ
head_words = length layout_20.head

unfoldable pub further_word : Layout → Further → ℕ
further_word L (value n) = n
further_word L (spanned e) = packed 0 (span_word L e)

unfoldable pub record_words : Layout → Record → List ℕ
record_words L r = map (packed 0) (first_words L r) ++ map (further_word L) r.further

unfoldable pub catalogue_words : Layout → List Record → List ℕ
catalogue_words L l = each (record_words L) l

unfoldable pub catalogue_bytes : Layout → List Record → List ℕ
catalogue_bytes L l = words_bytes (catalogue_words L l)

-- how many words a record of a kind takes: the first and the further ones
unfoldable pub words_of_kind : Layout → ℕ → ℕ
words_of_kind L k = length L.head + further_of_kind k

-- how many words records take
unfoldable pub word_count : Layout → List Record → ℕ
word_count L l = length (catalogue_words L l)

-- the longest text: every offset in it and its length have so many bits
abbrev pub text_limit : ℕ
text_limit = 2 ^ offset_width - 1
