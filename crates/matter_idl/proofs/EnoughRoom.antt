-- Buffers that are long enough for every text of n bytes: a catalogue of 8 * n bytes, read or surveyed, and a report of 4 * n + 8.
use Prim.Native.Nat.{ℕ, ◌+◌, ◌*◌, ◌≤◌}
use mathlib.Core.Path.{◌≡◌, refl, sym, ap}
use mathlib.Core.Bool.{Bool, true, false, false≢true}
use Rattle.std.specs.Prelude.{Option, None, Some}
use mathlib.Core.List.{List, [], ◌∷◌}
use native.Mathlib.Omega.{arith}
use lib.Dec.{leb}
use lib.ListN.{length, length-append}
use borrow.Author.Tests.{le-leb}
use Rattle.lexing.specs.outcomes.{text_numbers, Among, refused, fitted}
use Rattle.lexing.proofs.Numbers.{stop_part, part_text}
use Rattle.lexing.specs.reply.{Reply, ok, fail, stop}
use Rattle.lexing.specs.utf8.{utf8_error}
use Rattle.items.specs.items.{Item}
use Rattle.items.specs.layout.{layout, catalogue_bytes, word_count, text_limit}
use Rattle.items.proofs.RecordWords.{word_count_none, catalogue_bytes_length}
use Rattle.lexing.proofs.RefusedPlaces.{RefusedIn}
use Rattle.items.proofs.WordsPerByte.{items_words}
use Rattle.matter_idl.specs.hoisting.{no_ids, hoisted}
use Rattle.matter_idl.specs.reading.{all_items, Verdict, accepted, turned_down, by_reply, by_utf8, verdict_at, verdict, into_catalogue, reading}
use Rattle.matter_idl.specs.sections.{sections, joined}
use Rattle.matter_idl.specs.survey.{items_of, accepted_items, report_entries, report_layout, report_bytes, not_surveyed, into_buffers, survey}
use Rattle.matter_idl.proofs.AllItems.{accepted_many}
use Rattle.matter_idl.proofs.Places.{hoisted_words}
use Rattle.matter_idl.proofs.Cutting.{sections_joined, sections_count}
use Rattle.matter_idl.proofs.reading.Judged.{all_refused}
use Rattle.matter_idl.proofs.survey.Laws.{report_length, entries_count, words_more}
use Rattle.matter_idl.proofs.interface.SurveyOutcomes.{survey_now}

-- how many words the records of items take
abbrev words : List Item → ℕ
words l = word_count layout (hoisted no_ids l)

no_items : words [] ≡ 0
unfolding hoisted
no_items = word_count_none

-- a verdict on n bytes: its items take n words at the most, and its refusals are those of a text
abbrev Bounded : ℕ → Verdict → Type 0
Bounded n (accepted l) = words l ≤ n
Bounded n (turned_down k v) = Among text_numbers k

module _ (b : ℕ) (u : List ℕ) where
  reply_bounded : (x : Reply (List Item)) → all_items b u ≡ x → RefusedIn b u x → Bounded (length u) (by_reply x)
  unfolding by_reply
  reply_bounded (ok l c r) e h = omega (arith, hoisted_words no_ids l, items_words b u (accepted_many b u (sym e)).0)
  reply_bounded (fail p) e h = refl
  reply_bounded (stop n p) e h = part_text n (stop_part n h.1)

  verdict_at_bounded : Bounded (length u) (verdict_at b u)
  unfolding verdict_at by_utf8
  verdict_at_bounded = go (utf8_error b u)
    where
      go : (o : Option ℕ) → Bounded (length u) (by_utf8 o (by_reply (all_items b u)))
      go None = reply_bounded (all_items b u) refl (all_refused b u)
      go (Some p) = refl

verdict_bounded : (u : List ℕ) → Bounded (length u) (verdict u)
unfolding verdict
verdict_bounded u = go (leb (length u) text_limit) refl
  where
    go : (t : Bool) → leb (length u) text_limit ≡ t → Bounded (length u) (verdict u)
    go true e = rw (e, verdict) (verdict_at_bounded 0 u)
    go false e = rw (e, verdict) refl

-- the records of an accepted text take at most a word for each of its bytes
pub accepted_words : (u : List ℕ) {l : List Item} → verdict u ≡ accepted l → word_count layout (hoisted no_ids l) ≤ length u
accepted_words u e = rw e at (verdict_bounded u)

pub accepted_bytes : (u : List ℕ) {l : List Item} → verdict u ≡ accepted l → length (catalogue_bytes layout (hoisted no_ids l)) ≤ 8 * length u
accepted_bytes u {l} e = omega (arith, catalogue_bytes_length (hoisted no_ids l), accepted_words u e)

-- so a catalogue of that length is never too short
into_enough : (n m : ℕ) → 8 * n ≤ m → (v : Verdict) → Bounded n v → {k : ℕ} → into_catalogue layout m v ≡ refused 7 k → ⊥
unfolding into_catalogue fitted
into_enough n m h (accepted l) b e =
    let f = le-leb (length (catalogue_bytes layout (hoisted no_ids l))) m (omega (arith, h, b, catalogue_bytes_length (hoisted no_ids l))) in
    let i = rw (f, fitted) at e in
    let z : ◌≡◌ {A = ℕ} 0 1 = cc in
    omega arith
into_enough n m h (turned_down j v) b e = let z : j ≡ 7 = cc in false≢true (rw z at b)

pub reading_enough : (u : List ℕ) (n : ℕ) → 8 * length u ≤ n → {v : ℕ} → reading layout u n ≡ refused 7 v → ⊥
unfolding reading
reading_enough u n h e = into_enough (length u) n h (verdict u) (verdict_bounded u) e

-- the accepted sections' items
items_bounded : (n : ℕ) (v : Verdict) → Bounded n v → words (items_of v) ≤ n
unfolding items_of
items_bounded n (accepted l) b = b
items_bounded n (turned_down k p) b = omega (arith, no_items)

sections_words : (b : ℕ) (ss : List (List ℕ)) → words (accepted_items b ss) ≤ length (joined ss)
unfolding accepted_items joined
sections_words b [] = omega (arith, no_items)
sections_words b (s ∷ ss) =
    omega (arith, words_more (items_of (verdict_at b s)) (accepted_items (b + length s) ss), items_bounded (length s) (verdict_at b s) (verdict_at_bounded b s), sections_words (b + length s) ss, length-append s (joined ss))

pub survey_words : (u : List ℕ) → word_count layout (hoisted no_ids (accepted_items 0 (sections u))) ≤ length u
survey_words u = let z = ap length (sections_joined u) in omega (arith, z, sections_words 0 (sections u))

-- The survey's buffers.
catalogue_size : (u : List ℕ) → length (catalogue_bytes layout (hoisted no_ids (accepted_items 0 (sections u)))) ≤ 8 * length u
catalogue_size u = omega (arith, catalogue_bytes_length (hoisted no_ids (accepted_items 0 (sections u))), survey_words u)

report_size : (u : List ℕ) → length (report_bytes report_layout (report_entries 0 (sections u))) ≤ 4 * length u + 8
report_size u = omega (arith, report_length (report_entries 0 (sections u)), entries_count 0 (sections u), sections_count u)

module _ (n m : ℕ) (c r : List ℕ) {v : ℕ} where
  catalogue_fits : length c ≤ n → into_buffers n m c r ≡ not_surveyed 7 v → ⊥
  unfolding into_buffers
  catalogue_fits h e = go (leb (length r) m) refl
    where
      go : (t : Bool) → leb (length r) m ≡ t → ⊥
      go true f = let i = rw (f, le-leb (length c) n h, into_buffers) at e in let z : ◌≡◌ {A = ℕ} 0 1 = cc in omega arith
      go false f = let i = rw (f, into_buffers) at e in let z : ◌≡◌ {A = ℕ} 8 7 = cc in omega arith

  report_fits : length r ≤ m → into_buffers n m c r ≡ not_surveyed 8 v → ⊥
  unfolding into_buffers
  report_fits h e = go (leb (length c) n) refl
    where
      go : (t : Bool) → leb (length c) n ≡ t → ⊥
      go true f = let i = rw (le-leb (length r) m h, f, into_buffers) at e in let z : ◌≡◌ {A = ℕ} 0 1 = cc in omega arith
      go false f = let i = rw (le-leb (length r) m h, f, into_buffers) at e in let z : ◌≡◌ {A = ℕ} 7 8 = cc in omega arith

module _ (u : List ℕ) (n m : ℕ) where
  within_limit : {k v : ℕ} → 7 ≤ k → survey_now u n m ≡ not_surveyed k v → into_buffers n m (catalogue_bytes layout (hoisted no_ids (accepted_items 0 (sections u)))) (report_bytes report_layout (report_entries 0 (sections u))) ≡ not_surveyed k v
  unfolding survey
  within_limit {k} {v} h e = go (leb (length u) text_limit) refl
    where
      go : (t : Bool) → leb (length u) text_limit ≡ t → into_buffers n m (catalogue_bytes layout (hoisted no_ids (accepted_items 0 (sections u)))) (report_bytes report_layout (report_entries 0 (sections u))) ≡ not_surveyed k v
      go true f = rw (f, survey) at e
      go false f = let i = rw (f, survey) at e in let z : ◌≡◌ {A = ℕ} 1 k = cc in absurd (omega (arith, h, z))

  -- never refused by 7, whatever the report
  pub survey_catalogue_enough : 8 * length u ≤ n → {v : ℕ} → survey_now u n m ≡ not_surveyed 7 v → ⊥
  survey_catalogue_enough h e = catalogue_fits n m _ _ (omega (arith, h, catalogue_size u)) (within_limit (omega arith) e)

  -- never refused by 8, whatever the catalogue
  pub survey_report_enough : 4 * length u + 8 ≤ m → {v : ℕ} → survey_now u n m ≡ not_surveyed 8 v → ⊥
  survey_report_enough h e = report_fits n m _ _ (omega (arith, h, report_size u)) (within_limit (omega arith) e)
