-- The records that the survey hands out are the accepted sections' own, moved, with place marks from hoisting once over all of them.
use Prim.Native.Nat.{ℕ, ◌+◌, ◌≤◌}
use mathlib.Core.Path.{◌≡◌, refl, sym, ◌∙◌, ap}
use mathlib.Core.List.{List, [], ◌∷◌, map, map-append, head-eq_of_cons-eq, tail-eq_of_cons-eq}
use native.Mathlib.Omega.{arith}
use lib.ListN.{length}
use Rattle.items.specs.items.{Item}
use Rattle.items.specs.records.{Record, moved}
use Rattle.lexing.specs.buffers.{each}
use Rattle.items.specs.layout.{text_limit}
use Rattle.items.proofs.Shift.{shift_item}
use Rattle.matter_idl.specs.hoisting.{Tables, no_ids, held, after_items, hoisted}
use Rattle.matter_idl.specs.demand_3.{has_global, with_place}
use Rattle.matter_idl.specs.reading.{verdict}
use Rattle.matter_idl.specs.sections.{sections}
use Rattle.matter_idl.specs.survey.{items_of, accepted_items}
use Rattle.matter_idl.specs.demand_3.{own_records, own_moved, fed, place_of, places_once, with_places, handed_out, save_places, GlobalIds}
use Rattle.matter_idl.proofs.Places.{Alike, alike_append, alike_hoisted}
use Rattle.matter_idl.proofs.hoisting.Marks.{hoisted_append}
use Rattle.matter_idl.proofs.hoisting.Moved.{after_items_moved, hoisted_moved, after_items_append}
use Rattle.matter_idl.proofs.hoisting.Search.{Kind, enums, bitmaps, structs, number_of, table_of, by_search}
use Rattle.matter_idl.proofs.Cutting.{sections_joined}
use Rattle.matter_idl.proofs.SectionsAlone.{moved_items, each_short, items_alone}
use Rattle.matter_idl.proofs.Whole.{survey_true}

-- places and moves
pub save_moved : (d : ℕ) (l : List Record) → save_places (map (moved d) l) ≡ map (moved d) (save_places l)
unfolding save_places with_place moved
save_moved d [] = refl
save_moved d (r ∷ l) = ap (λ k. moved d (with_place 0 r) ∷ k) (save_moved d l)

places_moved : (d : ℕ) (l : List Record) → map place_of (map (moved d) l) ≡ map place_of l
unfolding place_of moved
places_moved d [] = refl
places_moved d (r ∷ l) = ap (λ k. place_of r ∷ k) (places_moved d l)

alike_moved : (d : ℕ) {k l : List Record} → Alike k l → Alike (map (moved d) k) (map (moved d) l)
alike_moved d {k} {l} e = record { same = save_moved d k ∙ (ap (map (moved d)) e.same ∙ sym (save_moved d l)) }

-- whatever the tables before them
alike_tables : (t t' : Tables) (l : List Item) → Alike (hoisted t l) (hoisted t' l)
alike_tables t t' l = record { same = (alike_hoisted t l).same ∙ sym (alike_hoisted t' l).same }

-- hoisting over the sections' items: their own records, save place marks
alike_own : (t : Tables) (b : ℕ) (ss : List (List ℕ)) → Alike (hoisted t (moved_items b ss)) (own_moved b ss)
unfolding moved_items own_moved own_records hoisted
alike_own t b [] = record { same = refl }
alike_own t b (s ∷ ss) =
    let l = items_of (verdict s) in
    rw (hoisted_append t (map (shift_item b) l) (moved_items (b + length s) ss), hoisted_moved b t l)
    (alike_append (alike_moved b (alike_tables t no_ids l)) (alike_own (after_items t (map (shift_item b) l)) (b + length s) ss))

-- the place marks do not depend on where the sections are
places_fed : (t : Tables) (b : ℕ) (ss : List (List ℕ)) → map place_of (hoisted t (moved_items b ss)) ≡ map place_of (hoisted t (fed ss))
unfolding moved_items fed each hoisted
places_fed t b [] = refl
places_fed t b (s ∷ ss) =
    let l = items_of (verdict s) in
    rw (hoisted_append t (map (shift_item b) l) (moved_items (b + length s) ss), hoisted_moved b t l, after_items_moved b t l, hoisted_append t l (fed ss))
    (map-append place_of (map (moved b) (hoisted t l)) _ ∙ (rw (places_moved b (hoisted t l), places_fed (after_items t l) (b + length s) ss) (sym (map-append place_of (hoisted t l) _))))

tables_fed : (t : Tables) (b : ℕ) (ss : List (List ℕ)) → after_items t (moved_items b ss) ≡ after_items t (fed ss)
unfolding moved_items fed each
tables_fed t b [] = refl
tables_fed t b (s ∷ ss) =
    let l = items_of (verdict s) in
    after_items_append t (map (shift_item b) l) (moved_items (b + length s) ss)
    ∙ (ap (λ x. after_items x (moved_items (b + length s) ss)) (after_items_moved b t l)
    ∙ (tables_fed (after_items t l) (b + length s) ss
    ∙ sym (after_items_append t l (fed ss))))

-- records with their places again
place_again : (r q : Record) → with_place 0 r ≡ with_place 0 q → with_place (place_of r) q ≡ r
unfolding with_place place_of
place_again r q e = sym (ap (with_place (place_of r)) e)

places_again : (l k : List Record) → save_places l ≡ save_places k → with_places (map place_of l) k ≡ l
unfolding with_places save_places
places_again [] k e = refl
places_again (r ∷ l) [] e = let z : ◌≡◌ {A = ℕ} 0 1 = cc in absurd (omega arith)
places_again (r ∷ l) (q ∷ k) e = rw (place_again r q (head-eq_of_cons-eq e), places_again l k (tail-eq_of_cons-eq e)) refl

handed : (ss : List (List ℕ)) → handed_out ss ≡ hoisted no_ids (moved_items 0 ss)
unfolding handed_out places_once
handed ss = ap (λ l. with_places l (own_moved 0 ss)) (sym (places_fed no_ids 0 ss)) ∙ places_again (hoisted no_ids (moved_items 0 ss)) (own_moved 0 ss) (alike_own no_ids 0 ss).same

pub handed_own : (ss : List (List ℕ)) → save_places (handed_out ss) ≡ save_places (own_moved 0 ss)
handed_own ss = ap save_places (handed ss) ∙ (alike_own no_ids 0 ss).same

pub handed_places : (ss : List (List ℕ)) → map place_of (handed_out ss) ≡ places_once ss
unfolding places_once
handed_places ss = ap (map place_of) (handed ss) ∙ places_fed no_ids 0 ss

-- the sections of a text
module _ (u : List ℕ) (h : length u ≤ text_limit) where
  items_moved : accepted_items 0 (sections u) ≡ moved_items 0 (sections u)
  items_moved = items_alone 0 (sections u) (each_short (sections u) (rw (sections_joined u) h))

  pub handed_hoisted : handed_out (sections u) ≡ hoisted no_ids (accepted_items 0 (sections u))
  handed_hoisted = handed (sections u) ∙ ap (hoisted no_ids) (sym items_moved)

  -- the ids of the globals
  handed_found : (K : Kind) (i : List ℕ) → has_global u (number_of K) i (handed_out (sections u)) ≡ held i (table_of K (after_items no_ids (fed (sections u))))
  handed_found K i =
      ap (has_global u (number_of K) i) handed_hoisted
      ∙ (sym (by_search u (length u) i K (accepted_items 0 (sections u)) (survey_true u))
      ∙ ap (λ t. held i (table_of K t)) (ap (after_items no_ids) items_moved ∙ tables_fed no_ids 0 (sections u)))

  pub handed_ids : GlobalIds u (handed_out (sections u)) (after_items no_ids (fed (sections u)))
  unfolding number_of table_of
  handed_ids = record { enums = handed_found enums; bitmaps = handed_found bitmaps; structs = handed_found structs }
