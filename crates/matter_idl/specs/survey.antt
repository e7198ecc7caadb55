-- The survey: every section of a text is read alone, with offsets of the whole text.
use Rattle.std.specs.Prelude.{ℕ, ◌+◌, ◌-◌, ◌*◌, true, false, List, [], ◌∷◌, ◌++◌, map, leb, length}
use Rattle.lexing.specs.outcomes.{Outcome, refused, written}
use Rattle.items.specs.items.{Item}
use Rattle.items.specs.records.{Bits, bits}
use Rattle.lexing.specs.buffers.{each, words_bytes}
use Rattle.items.specs.layout.{Layout, packed, offset_width, catalogue_bytes, text_limit}
use Rattle.matter_idl.specs.hoisting.{no_ids, hoisted}
use Rattle.matter_idl.specs.reading.{Verdict, accepted, turned_down, verdict_at}
use Rattle.matter_idl.specs.sections.{sections}

-- a refused section has no items
unfoldable pub items_of : Verdict → List Item
items_of (accepted l) = l
items_of (turned_down k v) = []

-- the accepted sections' items in text order; the first section starts at b
unfoldable pub accepted_items : ℕ → List (List ℕ) → List Item
accepted_items b [] = []
accepted_items b (s ∷ ss) = items_of (verdict_at b s) ++ accepted_items (b + length s) ss

-- document 01's report says of a section its start and length, and of a refused one its number and place too
pub data ReportEntry : Type 0 where
  sound : (start size : ℕ) → ReportEntry
  spoilt : (start size number place : ℕ) → ReportEntry

unfoldable pub report_entry : (start size : ℕ) → Verdict → ReportEntry
report_entry b n (accepted l) = sound b n
report_entry b n (turned_down k p) = spoilt b n k p

unfoldable pub report_entries : ℕ → List (List ℕ) → List ReportEntry
report_entries b [] = []
report_entries b (s ∷ ss) = report_entry b (length s) (verdict_at b s) ∷ report_entries (b + length s) ss

-- how an entry is laid out in words
abbrev pub ReportLayout : Type 0
ReportLayout = ReportEntry → List (List Bits)

-- the bits of a refusal's number: those that a start, a length and a place leave
abbrev pub number_width : ℕ
number_width = 64 - 3 * offset_width

-- document 01's word of an entry: start, length, number (0 accepted), place (0 if accepted); w is the width of an offset and of a length
abbrev pub report_row : (w start size number place : ℕ) → List Bits
report_row w b n k p = bits w b ∷ bits w n ∷ bits (64 - 3 * w) k ∷ bits w p ∷ []

abbrev pub report_20 : ReportLayout
report_20 (sound b n) = report_row offset_width b n 0 0 ∷ []
report_20 (spoilt b n k p) = report_row offset_width b n k p ∷ []

-- the report's layout in force
unfoldable pub report_layout : ReportLayout
report_layout = report_20

unfoldable pub entry_words : ReportLayout → ReportEntry → List ℕ
entry_words R e = map (packed 0) (R e)

unfoldable pub report_bytes : ReportLayout → List ReportEntry → List ℕ
report_bytes R l = words_bytes (each (entry_words R) l)

-- refused by a number with the value that goes with it, or the bytes of both buffers
pub data Surveyed : Type 0 where
  not_surveyed : (number value : ℕ) → Surveyed
  surveyed : (catalogue report : List ℕ) → Surveyed

-- what it comes to for each buffer; the result speaks of the catalogue
unfoldable pub for_catalogue : Surveyed → Outcome
for_catalogue (not_surveyed k v) = refused k v
for_catalogue (surveyed c r) = written c

unfoldable pub for_report : Surveyed → Outcome
for_report (not_surveyed k v) = refused k v
for_report (surveyed c r) = written r

-- 8, then 7, for a catalogue of n bytes and a report of m
unfoldable pub into_buffers : (n m : ℕ) → (catalogue report : List ℕ) → Surveyed
into_buffers n m c r = elim (leb (length r) m) [ true ↦ elim (leb (length c) n) [ true ↦ surveyed c r | false ↦ not_surveyed 7 (length c) ] | false ↦ not_surveyed 8 (length r) ]

-- 1, then 8, then 7; what sections are refused by goes into the report
unfoldable pub survey : Layout → ReportLayout → List ℕ → (n m : ℕ) → Surveyed
survey L R u n m =
    elim (leb (length u) text_limit) [ true ↦ into_buffers n m (catalogue_bytes L (hoisted no_ids (accepted_items 0 (sections u)))) (report_bytes R (report_entries 0 (sections u))) | false ↦ not_surveyed 1 text_limit ]
