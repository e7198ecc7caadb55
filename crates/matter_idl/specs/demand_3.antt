-- Demand 3: one claim about the survey, over a text's whole list of sections. proofs/Demand3 proves it.
use Rattle.std.specs.Prelude.{ℕ, ◌+◌, ◌*◌, ◌≤◌, ◌≡◌, Bool, true, false, ◌&&◌, ◌||◌, ◌⊎◌, List, [], ◌∷◌, ◌++◌, map, eqb, length, take, drop}
use Rattle.lexing.specs.outcomes.{Outcome, refused, written}
use Rattle.items.specs.items.{Item}
use Rattle.items.specs.records.{Extent, Record, enum_kind, bitmap_kind, struct_kind, moved}
use Rattle.lexing.specs.buffers.{each}
use Rattle.lexing.specs.word_sets.{same_bytes}
use Rattle.items.specs.layout.{offset, size, Layout, layout, catalogue_bytes, text_limit}
use Rattle.matter_idl.specs.hoisting.{Tables, no_ids, held, after_items, hoisted}
use Rattle.matter_idl.specs.reading.{Verdict, accepted, turned_down, verdict, reading}
use Rattle.matter_idl.specs.sections.{sections, joined}
use Rattle.matter_idl.specs.survey.{items_of, accepted_items, ReportEntry, sound, spoilt, ReportLayout, report_layout, report_bytes, surveyed, for_catalogue, survey}

-- Records, and their place marks.

-- a record with another place
unfoldable pub with_place : ℕ → Record → Record
with_place p r = record {
  kind = r.kind;
  place = p;
  maturity = r.maturity;
  doc_present = r.doc_present;
  flags = r.flags;
  name = r.name;
  first_privilege = r.first_privilege;
  second_privilege = r.second_privilege;
  further = r.further;
}

-- the bytes of a name in the text
unfoldable pub bytes_at : List ℕ → Extent → List ℕ
bytes_at t e = take (size e) (drop (offset e) t)

-- whether a record is that of a global type of kind k with the id i
unfoldable pub is_global : List ℕ → ℕ → List ℕ → Record → Bool
is_global t k i r = eqb r.place 1 && (eqb r.kind k && same_bytes i (bytes_at t r.name))

unfoldable pub has_global : List ℕ → ℕ → List ℕ → List Record → Bool
has_global t k i [] = false
has_global t k i (r ∷ l) = is_global t k i r || has_global t k i l

-- Document 01's words.

-- alone: what reading answers for just the section's bytes, with a catalogue long enough, by its verdict on them
unfoldable pub alone : Layout → Verdict → Outcome
alone L (accepted l) = written (catalogue_bytes L (hoisted no_ids l))
alone L (turned_down k p) = refused k p

-- a section's own records: demand 2's of those bytes; a refused section has none
unfoldable pub own_records : List ℕ → List Record
own_records s = hoisted no_ids (items_of (verdict s))

-- the sections' own records in order, offsets moved by each section's start; the first section starts at b
unfoldable pub own_moved : ℕ → List (List ℕ) → List Record
own_moved b [] = []
own_moved b (s ∷ ss) = map (moved b) (own_records s) ++ own_moved (b + length s) ss

-- hoisting once is fed the accepted sections' items in text order, as demand 2's definition reads them; a refused section feeds it nothing
unfoldable pub fed : List (List ℕ) → List Item
fed ss = each (λ s. items_of (verdict s)) ss

unfoldable pub place_of : Record → ℕ
place_of r = r.place

-- the place marks from hoisting once over all sections
unfoldable pub places_once : List (List ℕ) → List ℕ
places_once ss = map place_of (hoisted no_ids (fed ss))

unfoldable pub with_places : List ℕ → List Record → List Record
with_places [] l = []
with_places (p ∷ ps) [] = []
with_places (p ∷ ps) (r ∷ l) = with_place p r ∷ with_places ps l

-- what the survey hands out
unfoldable pub handed_out : List (List ℕ) → List Record
handed_out ss = with_places (places_once ss) (own_moved 0 ss)

-- records, save place marks
unfoldable pub save_places : List Record → List Record
save_places l = map (with_place 0) l

-- enum, bitmap, struct
abbrev pub IsType : Record → Type 0
IsType r = (r.kind ≡ enum_kind) ⊎ ((r.kind ≡ bitmap_kind) ⊎ (r.kind ≡ struct_kind))

abbrev pub EachType : List Record → Type 0
EachType [] = Unit {0}
EachType (r ∷ l) = IsType r × EachType l

-- the globals are the types marked 1
unfoldable pub globals : List Record → List Record
globals [] = []
globals (r ∷ l) = elim (eqb r.place 1) [ true ↦ r ∷ globals l | false ↦ globals l ]

-- the ids of the globals of text u, kind by kind, are those in tables
pub record GlobalIds (u : List ℕ) (l : List Record) (t : Tables) : Type 0 where
  pub enums : (i : List ℕ) → has_global u enum_kind i l ≡ held i t.enums
  pub bitmaps : (i : List ℕ) → has_global u bitmap_kind i l ≡ held i t.bitmaps
  pub structs : (i : List ℕ) → has_global u struct_kind i l ≡ held i t.structs

-- the report of a section that starts at b and has n bytes: its number and place as alone, the place moved by its start
unfoldable pub entry_alone : (b n : ℕ) → Verdict → ReportEntry
entry_alone b n (accepted l) = sound b n
entry_alone b n (turned_down k p) = spoilt b n k (b + p)

unfoldable pub entries_alone : ℕ → List (List ℕ) → List ReportEntry
entries_alone b [] = []
entries_alone b (s ∷ ss) = entry_alone b (length s) (verdict s) ∷ entries_alone (b + length s) ss

unfoldable pub catalogue_for : Layout → List ℕ → List ℕ
catalogue_for L u = catalogue_bytes L (handed_out (sections u))

unfoldable pub report_for : ReportLayout → List ℕ → List ℕ
report_for R u = report_bytes R (entries_alone 0 (sections u))

-- long enough: 7 and 8 don't apply. It is said by the bytes needed and not by the survey's answer, so that a survey that always says 8 is ruled out
pub record LongEnough (L : Layout) (R : ReportLayout) (u : List ℕ) (n m : ℕ) : Type 0 where
  pub catalogue : length (catalogue_for L u) ≤ n
  pub report : length (report_for R u) ≤ m

abbrev pub Accepted : Verdict → Type 0
Accepted (accepted l) = Unit {0}
Accepted (turned_down k p) = ⊥

abbrev pub EachAccepted : List (List ℕ) → Type 0
EachAccepted [] = Unit {0}
EachAccepted (s ∷ ss) = Accepted (verdict s) × EachAccepted ss

-- in the report moved are the starts and the places of refusals
unfoldable pub moved_entry : ℕ → ReportEntry → ReportEntry
moved_entry d (sound b n) = sound (d + b) n
moved_entry d (spoilt b n k p) = spoilt (d + b) n k (d + p)

-- 0: accepted
unfoldable pub number_of : ReportEntry → ℕ
number_of (sound b n) = 0
number_of (spoilt b n k p) = k

-- what is after a change from one length to another is moved by the difference
pub record MovedBy {A : Type 0} (move : ℕ → A → A) (from to : ℕ) (before after : List A) : Type 0 where
  pub grown : (d : ℕ) → to ≡ d + from → after ≡ map (move d) before
  pub shrunk : (d : ℕ) → from ≡ d + to → before ≡ map (move d) after

-- where the section after these starts
unfoldable pub extent_of : List (List ℕ) → ℕ
extent_of ss = length (joined ss)

-- One section s of the text u is replaced by any bytes r, none too; the new text is v. In r cutting finds the sections `middle`, none, one or more, and all other sections unchanged.
pub record Replacement (u v : List ℕ) (before : List (List ℕ)) (s : List ℕ) (following : List (List ℕ)) (r : List ℕ) (middle : List (List ℕ)) : Type 0 where
  pub old : sections u ≡ before ++ (s ∷ following)
  pub new : v ≡ joined before ++ (r ++ joined following)
  pub unchanged : sections v ≡ before ++ (middle ++ following)
  pub short : length v ≤ text_limit

pub record Replaced (L : Layout) (R : ReportLayout) (u v : List ℕ) (before : List (List ℕ)) (s : List ℕ) (following : List (List ℕ)) (r : List ℕ) (middle : List (List ℕ)) : Type 0 where
  -- the survey accepts the new text too
  pub accepts : (n m : ℕ) → LongEnough L R v n m → survey L R v n m ≡ surveyed (catalogue_for L v) (report_for R v)
  -- the old report and the new one: in front of the change they are the same
  pub old_report : entries_alone 0 (sections u) ≡ entries_alone 0 before ++ (entries_alone (extent_of before) (s ∷ []) ++ entries_alone (extent_of before + length s) following)
  pub new_report : entries_alone 0 (sections v) ≡ entries_alone 0 before ++ (entries_alone (extent_of before) middle ++ entries_alone (extent_of before + length r) following)
  -- after it each section is accepted, or refused by the same number, as before
  pub numbers : map number_of (entries_alone (extent_of before + length r) following) ≡ map number_of (entries_alone (extent_of before + length s) following)
  -- and its offsets move by the change in length
  pub report : MovedBy moved_entry (length s) (length r) (entries_alone (extent_of before + length s) following) (entries_alone (extent_of before + length r) following)
  -- the old records and the new ones, save place marks: in front of the change they are the same
  pub old_records : save_places (handed_out (sections u)) ≡ save_places (own_moved 0 before) ++ (save_places (own_moved (extent_of before) (s ∷ [])) ++ save_places (own_moved (extent_of before + length s) following))
  pub new_records : save_places (handed_out (sections v)) ≡ save_places (own_moved 0 before) ++ (save_places (own_moved (extent_of before) middle) ++ save_places (own_moved (extent_of before + length r) following))
  -- after it their offsets move by the change in length
  pub records : MovedBy moved (length s) (length r) (save_places (own_moved (extent_of before + length s) following)) (save_places (own_moved (extent_of before + length r) following))

-- Demand 3 of a text u, a catalogue of n bytes and a report of m bytes that are long enough. Each field has the sentence that it says, and the surveys that it rules out.
pub record Demand3 (L : Layout) (R : ReportLayout) (u : List ℕ) (n m : ℕ) : Type 0 where
  -- "Alone: reading is given just the section's bytes and a catalogue long enough; accepted, refused by which number and where, and a section's own records are what demand 2's definition names for those bytes."
  -- Rules out a survey whose sections are read by rules of its own; the verdict, by which all that follows is said, is reading's.
  pub alone_reads : (s : List ℕ) (k : ℕ) → length (catalogue_bytes L (own_records s)) ≤ k → reading L s k ≡ alone L (verdict s)
  -- "The survey accepts; its report gives each section's start, length, number and place as alone, moved by its start; its catalogue is the accepted sections' own records ..": both buffers' bytes.
  -- Rules out a survey that always says 8, or 7, or that writes nothing; one that reports every section as refused, or gives its own numbers or places; one that leaves offsets as the section alone has them.
  pub accepts : survey L R u n m ≡ surveyed (catalogue_for L u) (report_for R u)
  -- ".. exactly the accepted sections' own records in order, offsets moved by each section's start ..": giving them place marks drops none and changes nothing else.
  -- Rules out a survey that repeats one section's items, drops an accepted section between two refused ones, or puts them in another order.
  pub records : save_places (handed_out (sections u)) ≡ save_places (own_moved 0 (sections u))
  -- ".. place marks from hoisting once over all of them;"
  -- Rules out a survey that hoists every section anew, so that a type shared by two sections is global twice.
  pub places : map place_of (handed_out (sections u)) ≡ places_once (sections u)
  -- "a refused section hands out nothing;" nor does it feed hoisting.
  -- Rules out a survey that hands out the items in front of the place where a section is refused, or keeps their ids.
  pub nothing : (s : List ℕ) (k p : ℕ) → verdict s ≡ turned_down k p → (own_records s ≡ []) × (fed (s ∷ []) ≡ [])
  -- "the globals are what hoisting gives over the accepted sections": what it marks 1, types and nothing else ..
  -- Rules out a survey that marks types of clusters global by another rule than reading.
  pub global : globals (handed_out (sections u)) ≡ globals (hoisted no_ids (accepted_items 0 (sections u)))
  pub types : EachType (globals (handed_out (sections u)))
  -- .. and their ids, which are the names' bytes in the text, are those in hoisting's tables at the end.
  -- Rules out a survey whose globals have offsets at which other bytes are, or that keeps the ids of a refused section.
  pub ids : GlobalIds u (handed_out (sections u)) (after_items no_ids (fed (sections u)))
  -- "If each section is accepted alone, reading accepts the whole ..
  -- Rules out a survey that accepts what reading refuses, as a comment or a declaration that is cut in two.
  pub whole : EachAccepted (sections u) → reading L u n ≡ written (catalogue_for L u)
  -- .. and writes the same bytes as the survey."
  pub same_bytes : EachAccepted (sections u) → reading L u n ≡ for_catalogue (survey L R u n m)
  -- "Any one section of a text is replaced by any bytes so that cutting the new text finds all other sections unchanged. Then each of those is accepted, or refused by the same number, as before; the survey hands out its records as before, save place marks; and offsets behind the change move by the change in length, in catalogue and report."
  -- Rules out a survey that gives up after the first refused section, or whose answer for one section leans on the bytes of another.
  pub replaced : (v : List ℕ) (before : List (List ℕ)) (s : List ℕ) (following : List (List ℕ)) (r : List ℕ) (middle : List (List ℕ)) → Replacement u v before s following r middle → Replaced L R u v before s following r middle

-- for every text within the limit and buffers long enough
abbrev pub Demand3Over : Layout → ReportLayout → Type 0
Demand3Over L R = (u : List ℕ) (n m : ℕ) → length u ≤ text_limit → LongEnough L R u n m → Demand3 L R u n m

-- document 01's layouts: the report is long enough with 8 bytes a section
abbrev pub Demand3Now : Type 0
Demand3Now = (u : List ℕ) (n m : ℕ) → length u ≤ text_limit → length (catalogue_for layout u) ≤ n → 8 * length (sections u) ≤ m → Demand3 layout report_layout u n m
