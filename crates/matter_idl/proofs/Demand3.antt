-- Demand 3, proved: for all layouts, every text within the limit and all buffers long enough.
use Prim.Native.Nat.{ℕ, ◌*◌, ◌≤◌}
use mathlib.Core.Path.{◌≡◌, refl, sym, ◌∙◌, ap}
use mathlib.Core.List.{List, [], ◌∷◌}
use lib.ListN.{length}
use borrow.Author.Tests.{le-leb}
use Rattle.lexing.specs.outcomes.{written, fitted}
use Rattle.items.specs.records.{moved}
use Rattle.lexing.specs.buffers.{each}
use Rattle.items.specs.layout.{Layout, layout, catalogue_bytes, text_limit}
use Rattle.matter_idl.specs.hoisting.{no_ids, hoisted}
use Rattle.matter_idl.specs.reading.{Verdict, accepted, turned_down, verdict, into_catalogue, reading}
use Rattle.matter_idl.specs.sections.{sections}
use Rattle.matter_idl.specs.survey.{items_of, accepted_items, report_entries, ReportLayout, report_layout, surveyed, for_catalogue, into_buffers, survey}
use Rattle.matter_idl.specs.demand_3.{alone, own_records, fed, globals, entries_alone, catalogue_for, report_for, LongEnough, EachAccepted, moved_entry, extent_of, Replacement, Replaced, Demand3Over, Demand3Now}
use Rattle.matter_idl.proofs.HandedOut.{handed_own, handed_places, handed_hoisted, handed_ids}
use Rattle.matter_idl.proofs.hoisting.Types.{hoisted_globals}
use Rattle.matter_idl.proofs.survey.Laws.{report_length, entries_count}
use Rattle.matter_idl.proofs.Replacing.{moved_by, entries_along, entries_moved, numbers_same, saved_own, saved_along, saved_moved, old_along, new_along}
use Rattle.matter_idl.proofs.Cutting.{sections_joined}
use Rattle.matter_idl.proofs.SectionsAlone.{each_short, entries_as_alone}
use Rattle.matter_idl.proofs.Whole.{whole_verdict}

-- a buffer that is long enough
fitted_in : (k n : ℕ) (l : List ℕ) → length l ≤ n → fitted k n l ≡ written l
unfolding fitted
fitted_in k n l h = rw (le-leb (length l) n h, fitted) refl

both_in : (n m : ℕ) (c r : List ℕ) → length c ≤ n → length r ≤ m → into_buffers n m c r ≡ surveyed c r
unfolding into_buffers
both_in n m c r h k = rw (le-leb (length r) m k, into_buffers) (rw (le-leb (length c) n h) refl)

-- a section alone
reads_alone : (L : Layout) (s : List ℕ) (n : ℕ) → length (catalogue_bytes L (own_records s)) ≤ n → reading L s n ≡ alone L (verdict s)
unfolding reading into_catalogue alone own_records items_of
reads_alone L s n h = go (verdict s) h
  where
    go : (v : Verdict) → length (catalogue_bytes L (hoisted no_ids (items_of v))) ≤ n → into_catalogue L n v ≡ alone L v
    go (accepted l) k = fitted_in 7 n (catalogue_bytes L (hoisted no_ids l)) k
    go (turned_down i p) k = refl

nothing_of : (s : List ℕ) (k p : ℕ) → verdict s ≡ turned_down k p → (own_records s ≡ []) × (fed (s ∷ []) ≡ [])
unfolding own_records fed each items_of hoisted
nothing_of s k p e = rw e (refl, refl)

-- the entries of the sections where they are
entries_now : (u : List ℕ) → length u ≤ text_limit → report_entries 0 (sections u) ≡ entries_alone 0 (sections u)
entries_now u h = entries_as_alone 0 (sections u) (each_short (sections u) (rw (sections_joined u) h))

module _ (L : Layout) (R : ReportLayout) (u : List ℕ) (h : length u ≤ text_limit) where
  -- the survey by the sections alone, whatever the buffers' lengths
  pub survey_is : (n m : ℕ) → survey L R u n m ≡ into_buffers n m (catalogue_for L u) (report_for R u)
  unfolding survey catalogue_for report_for
  survey_is n m =
      rw (le-leb (length u) text_limit h, survey)
      (rw (sym (handed_hoisted u h), entries_now u h) refl)

  accepts : (n m : ℕ) → LongEnough L R u n m → survey L R u n m ≡ surveyed (catalogue_for L u) (report_for R u)
  accepts n m k = survey_is n m ∙ both_in n m (catalogue_for L u) (report_for R u) k.catalogue k.report

  whole : (n : ℕ) → length (catalogue_for L u) ≤ n → EachAccepted (sections u) → reading L u n ≡ written (catalogue_for L u)
  unfolding reading into_catalogue catalogue_for
  whole n k e = rw (whole_verdict u h e, sym (handed_hoisted u h)) (fitted_in 7 n (catalogue_for L u) k)

  same_bytes : (n m : ℕ) → LongEnough L R u n m → EachAccepted (sections u) → reading L u n ≡ for_catalogue (survey L R u n m)
  unfolding for_catalogue
  same_bytes n m k e = whole n k.catalogue e ∙ sym (ap for_catalogue (accepts n m k))

replacing : (L : Layout) (R : ReportLayout) {u v : List ℕ} {before : List (List ℕ)} {s : List ℕ} {following : List (List ℕ)} {r : List ℕ} {middle : List (List ℕ)} → Replacement u v before s following r middle → Replaced L R u v before s following r middle
unfolding saved_own
replacing L R {u} {v} {before} {s} {following} {r} {middle} q =
    record {
      accepts = λ n m k. accepts L R v q.short n m k;
      old_report = old_along q entries_alone entries_along;
      new_report = new_along q entries_alone entries_along;
      numbers = numbers_same _ _ following;
      report = moved_by moved_entry (λ b. entries_alone b following) (λ d b. entries_moved d b following) (extent_of before) (length s) (length r);
      old_records = handed_own (sections u) ∙ old_along q saved_own saved_along;
      new_records = handed_own (sections v) ∙ new_along q saved_own saved_along;
      records = moved_by moved (λ b. saved_own b following) (λ d b. saved_moved d b following) (extent_of before) (length s) (length r);
    }

pub demand_3 : (L : Layout) (R : ReportLayout) → Demand3Over L R
demand_3 L R u n m h k =
    record {
      alone_reads = reads_alone L;
      accepts = accepts L R u h n m k;
      records = handed_own (sections u);
      places = handed_places (sections u);
      nothing = nothing_of;
      global = ap globals (handed_hoisted u h);
      types = rw (handed_hoisted u h) (hoisted_globals no_ids (accepted_items 0 (sections u)));
      ids = handed_ids u h;
      whole = whole L R u h n k.catalogue;
      same_bytes = same_bytes L R u h n m k;
      replaced = λ v before s following r middle q. replacing L R q;
    }

-- Document 01's layouts: a report has 8 bytes a section.
rows : (u : List ℕ) → length u ≤ text_limit → length (report_for report_layout u) ≡ 8 * length (sections u)
unfolding report_for
rows u h = rw (← entries_now u h) (report_length (report_entries 0 (sections u)) ∙ ap (λ n. 8 * n) (entries_count 0 (sections u)))

pub demand_3_now : Demand3Now
demand_3_now u n m h k j = demand_3 layout report_layout u n m h (record { catalogue = k; report = rw (rows u h) j })
