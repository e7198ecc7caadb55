-- No value of the survey's report and catalogue spills over its bits, and every word is below 2^64.
use Prim.Native.Nat.{ℕ, ◌+◌, ◌≤◌}
use mathlib.Core.Path.{◌≡◌, refl, ap}
use mathlib.Core.List.{List, [], ◌∷◌}
use Rattle.std.specs.Prelude.{Option, None, Some}
use native.Mathlib.Omega.{arith}
use lib.Dec.{lit<}
use lib.ListN.{length, length-append}
use Rattle.lexing.specs.outcomes.{part_numbers, Among}
use Rattle.lexing.proofs.Numbers.{number_less, stop_part}
use Rattle.lexing.specs.reply.{Reply, ok, fail, stop}
use Rattle.lexing.specs.utf8.{utf8_error}
use Rattle.lexing.proofs.utf8.Laws.{utf8_inside}
use Rattle.items.specs.items.{Item}
use Rattle.lexing.specs.buffers.{each}
use Rattle.items.specs.layout.{layout, packed, width, catalogue_words, text_limit}
use Rattle.items.proofs.RecordsFit.{RecordFits, WordFits, Word64, word_less, layout_fits, catalogue_fits, all_map, all_each}
use Rattle.lexing.proofs.RefusedPlaces.{RefusedIn}
use Rattle.lexing.proofs.Truth.{All}
use Rattle.matter_idl.specs.hoisting.{no_ids, hoisted}
use Rattle.matter_idl.specs.reading.{all_items, by_reply, by_utf8, verdict_at}
use Rattle.matter_idl.specs.sections.{sections, joined}
use Rattle.matter_idl.specs.survey.{accepted_items, ReportEntry, sound, spoilt, report_entry, report_entries, report_layout, entry_words}
use Rattle.matter_idl.proofs.Cutting.{sections_joined}
use Rattle.matter_idl.proofs.Whole.{survey_true}
use Rattle.matter_idl.proofs.hoisting.Marking.{hoisted_fits}
use Rattle.matter_idl.proofs.reading.Judged.{all_refused}

-- an entry of a text of n bytes
abbrev pub EntryIn : ℕ → ReportEntry → Type 0
EntryIn n (sound b k) = b + k ≤ n
EntryIn n (spoilt b k i p) = (b + k ≤ n) × Among part_numbers i × (p ≤ n)

module _ (n b : ℕ) (s : List ℕ) (h : b + length s ≤ n) where
  reply_in : (x : Reply (List Item)) → RefusedIn b s x → EntryIn n (report_entry b (length s) (by_reply x))
  unfolding report_entry by_reply
  reply_in (ok l c r) k = h
  reply_in (fail p) k = (h, refl, omega (arith, k.before))
  reply_in (stop i p) k = (h, stop_part i k.1, omega (arith, k.0.before))

  entry_in : EntryIn n (report_entry b (length s) (verdict_at b s))
  unfolding verdict_at by_utf8 report_entry
  entry_in = go (utf8_error b s) refl
    where
      go : (o : Option ℕ) → utf8_error b s ≡ o → EntryIn n (report_entry b (length s) (by_utf8 o (by_reply (all_items b s))))
      go None e = reply_in (all_items b s) (all_refused b s)
      go (Some p) e = (h, refl, omega (arith, utf8_inside b s p e))

entries_in : (n b : ℕ) (ss : List (List ℕ)) → b + length (joined ss) ≤ n → All (EntryIn n) (report_entries b ss)
unfolding report_entries joined
entries_in n b [] h = tt
entries_in n b (s ∷ ss) h = let e = length-append s (joined ss) in (entry_in n b s (omega (arith, h, e)), entries_in n (b + length s) ss (omega (arith, h, e)))

pub survey_entries_in : (u : List ℕ) → All (EntryIn (length u)) (report_entries 0 (sections u))
survey_entries_in u = entries_in (length u) 0 (sections u) (let z = ap length (sections_joined u) in omega (arith, z))

-- in document 01's layout
module _ (n : ℕ) (limit : n ≤ text_limit) where
  pub entry_fits : (e : ReportEntry) → EntryIn n e → All WordFits (report_layout e)
  unfolding report_layout width
  entry_fits (sound b k) h = (record { fit = (omega arith, (omega arith, (lit< tt, (lit< tt, tt)))); full = refl }, tt)
  entry_fits (spoilt b k i p) h = (record { fit = (omega (arith, h.0), (omega (arith, h.0), (number_less 16 part_numbers refl i h.1, (omega (arith, h.2), tt)))); full = refl }, tt)

-- no value of the report spills over its bits
pub report_fits : (u : List ℕ) → length u ≤ text_limit → All WordFits (each report_layout (report_entries 0 (sections u)))
report_fits u h = all_each (EntryIn (length u)) WordFits report_layout (entry_fits (length u) h) (report_entries 0 (sections u)) (survey_entries_in u)

-- so its words are below 2^64
pub report_words_fit : (u : List ℕ) → length u ≤ text_limit → All Word64 (each (entry_words report_layout) (report_entries 0 (sections u)))
unfolding entry_words
report_words_fit u h = all_each (EntryIn (length u)) Word64 (entry_words report_layout) (λ e k. all_map WordFits Word64 (packed 0) word_less (report_layout e) (entry_fits (length u) h e k)) (report_entries 0 (sections u)) (survey_entries_in u)

-- the records that the survey hands out fit, and their words are below 2^64
pub survey_fits : (u : List ℕ) → All (RecordFits (length u)) (hoisted no_ids (accepted_items 0 (sections u)))
survey_fits u = hoisted_fits u (length u) no_ids (accepted_items 0 (sections u)) (survey_true u)

pub survey_words_fit : (u : List ℕ) → length u ≤ text_limit → All Word64 (catalogue_words layout (hoisted no_ids (accepted_items 0 (sections u))))
survey_words_fit u h = catalogue_fits (layout_fits (length u) h) (hoisted no_ids (accepted_items 0 (sections u))) (survey_fits u)
