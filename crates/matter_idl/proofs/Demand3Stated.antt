-- Demand 3 once more, field by field, with each type written out: what `demand_3_now` gives for a text within the limit and buffers long enough. A field of `Demand3` that is weakened or taken out breaks the law of its name here.
use Prim.Native.Nat.{ℕ, ◌+◌, ◌*◌, ◌≤◌}
use mathlib.Core.Path.{◌≡◌}
use mathlib.Core.List.{List, [], ◌∷◌, ◌++◌, map}
use lib.ListN.{length}
use Rattle.lexing.specs.outcomes.{written}
use Rattle.items.specs.records.{moved}
use Rattle.items.specs.layout.{layout, catalogue_bytes, text_limit}
use Rattle.matter_idl.specs.hoisting.{no_ids, held, after_items, hoisted}
use Rattle.matter_idl.specs.reading.{turned_down, verdict, reading}
use Rattle.matter_idl.specs.sections.{sections, joined}
use Rattle.matter_idl.specs.survey.{accepted_items, report_layout, surveyed, for_catalogue, survey}
use Rattle.matter_idl.specs.demand_3.{has_global, alone, own_records, own_moved, fed, place_of, places_once, handed_out, save_places, EachType, globals, entries_alone, catalogue_for, report_for, EachAccepted, moved_entry, number_of, extent_of, Replaced, Demand3}
use Rattle.matter_idl.proofs.Demand3.{demand_3_now}

module _ (u : List ℕ) (n m : ℕ) (short : length u ≤ text_limit) (catalogue : length (catalogue_for layout u) ≤ n) (report : 8 * length (sections u) ≤ m) where
  demand : Demand3 layout report_layout u n m
  demand = demand_3_now u n m short catalogue report

  -- "Alone: reading is given just the section's bytes and a catalogue long enough"
  alone_reads : (s : List ℕ) (k : ℕ) → length (catalogue_bytes layout (own_records s)) ≤ k → reading layout s k ≡ alone layout (verdict s)
  alone_reads = demand.alone_reads

  -- "The survey accepts; its report gives each section's start, length, number and place as alone, moved by its start"
  accepts : survey layout report_layout u n m ≡ surveyed (catalogue_for layout u) (report_for report_layout u)
  accepts = demand.accepts

  -- "its catalogue is exactly the accepted sections' own records in order, offsets moved by each section's start"
  records : save_places (handed_out (sections u)) ≡ save_places (own_moved 0 (sections u))
  records = demand.records

  -- "place marks from hoisting once over all of them"
  places : map place_of (handed_out (sections u)) ≡ places_once (sections u)
  places = demand.places

  -- "a refused section hands out nothing"
  nothing : (s : List ℕ) (k p : ℕ) → verdict s ≡ turned_down k p → (own_records s ≡ []) × (fed (s ∷ []) ≡ [])
  nothing = demand.nothing

  -- "the globals are what hoisting gives over the accepted sections"
  global : globals (handed_out (sections u)) ≡ globals (hoisted no_ids (accepted_items 0 (sections u)))
  global = demand.global

  types : EachType (globals (handed_out (sections u)))
  types = demand.types

  enum_ids : (i : List ℕ) → has_global u 2 i (handed_out (sections u)) ≡ held i (after_items no_ids (fed (sections u))).enums
  enum_ids = demand.ids.enums

  bitmap_ids : (i : List ℕ) → has_global u 3 i (handed_out (sections u)) ≡ held i (after_items no_ids (fed (sections u))).bitmaps
  bitmap_ids = demand.ids.bitmaps

  struct_ids : (i : List ℕ) → has_global u 5 i (handed_out (sections u)) ≡ held i (after_items no_ids (fed (sections u))).structs
  struct_ids = demand.ids.structs

  -- "If each section is accepted alone, reading accepts the whole and writes the same bytes as the survey."
  whole : EachAccepted (sections u) → reading layout u n ≡ written (catalogue_for layout u)
  whole = demand.whole

  same_bytes : EachAccepted (sections u) → reading layout u n ≡ for_catalogue (survey layout report_layout u n m)
  same_bytes = demand.same_bytes

  -- "Any one section of a text is replaced by any bytes so that cutting the new text finds all other sections unchanged."
  module _ (v : List ℕ) (before : List (List ℕ)) (s : List ℕ) (following : List (List ℕ)) (r : List ℕ) (middle : List (List ℕ)) (old : sections u ≡ before ++ (s ∷ following)) (new : v ≡ joined before ++ (r ++ joined following)) (unchanged : sections v ≡ before ++ (middle ++ following)) (within : length v ≤ text_limit) where
    replaced : Replaced layout report_layout u v before s following r middle
    replaced = demand.replaced v before s following r middle (record { old = old; new = new; unchanged = unchanged; short = within })

    replaced_accepts : (n' m' : ℕ) → length (catalogue_for layout v) ≤ n' → length (report_for report_layout v) ≤ m' → survey layout report_layout v n' m' ≡ surveyed (catalogue_for layout v) (report_for report_layout v)
    replaced_accepts n' m' c e = replaced.accepts n' m' (record { catalogue = c; report = e })

    old_report : entries_alone 0 (sections u) ≡ entries_alone 0 before ++ (entries_alone (extent_of before) (s ∷ []) ++ entries_alone (extent_of before + length s) following)
    old_report = replaced.old_report

    new_report : entries_alone 0 (sections v) ≡ entries_alone 0 before ++ (entries_alone (extent_of before) middle ++ entries_alone (extent_of before + length r) following)
    new_report = replaced.new_report

    -- "Then each of those is accepted, or refused by the same number, as before"
    numbers : map number_of (entries_alone (extent_of before + length r) following) ≡ map number_of (entries_alone (extent_of before + length s) following)
    numbers = replaced.numbers

    -- "offsets behind the change move by the change in length, in catalogue and report"
    report_grown : (d : ℕ) → length r ≡ d + length s → entries_alone (extent_of before + length r) following ≡ map (moved_entry d) (entries_alone (extent_of before + length s) following)
    report_grown = replaced.report.grown

    report_shrunk : (d : ℕ) → length s ≡ d + length r → entries_alone (extent_of before + length s) following ≡ map (moved_entry d) (entries_alone (extent_of before + length r) following)
    report_shrunk = replaced.report.shrunk

    -- "the survey hands out its records as before, save place marks"
    old_records : save_places (handed_out (sections u)) ≡ save_places (own_moved 0 before) ++ (save_places (own_moved (extent_of before) (s ∷ [])) ++ save_places (own_moved (extent_of before + length s) following))
    old_records = replaced.old_records

    new_records : save_places (handed_out (sections v)) ≡ save_places (own_moved 0 before) ++ (save_places (own_moved (extent_of before) middle) ++ save_places (own_moved (extent_of before + length r) following))
    new_records = replaced.new_records

    records_grown : (d : ℕ) → length r ≡ d + length s → save_places (own_moved (extent_of before + length r) following) ≡ map (moved d) (save_places (own_moved (extent_of before + length s) following))
    records_grown = replaced.records.grown

    records_shrunk : (d : ℕ) → length s ≡ d + length r → save_places (own_moved (extent_of before + length s) following) ≡ map (moved d) (save_places (own_moved (extent_of before + length r) following))
    records_shrunk = replaced.records.shrunk
