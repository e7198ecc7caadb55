-- The passes of the survey: what the sections before an offset come to, and what is left.
use mathlib.Core.Path.{◌≡◌, refl, sym, ap, ◌∙◌, subst}
use mathlib.Core.Bool.{Bool, true, false}
use mathlib.Core.List.{List, [], ◌∷◌, ◌++◌, append_assoc, append-nil}
use Prim.Native.Nat.{ℕ, ◌^◌, suc, ◌+◌, ◌-◌, ◌*◌, ◌≤◌, ◌<◌}
use native.Mathlib.Omega.{arith}
use lib.Dec.{leb}
use lib.ListN.{length, take, drop, length-append, length-take, length-drop}
use borrow.Author.Tests.{le-leb, lt-leb}
use Rattle.lexing.specs.answers.{Rest}
use Rattle.lexing.proofs.Slicing.{rebase}
use Rattle.items.specs.items.{Item}
use Rattle.lexing.specs.buffers.{each, big_endian, put}
use Rattle.items.specs.layout.{layout, word_count, text_limit}
use Rattle.items.specs.answers.items.{unhoisted_item}
use Rattle.lexing.proofs.buffers.Laws.{each_append, words_bytes_append, words_bytes_length, put_one}
use Rattle.items.proofs.RecordWords.{word_count_append, word_count_none}
use Rattle.matter_idl.specs.hoisting.{no_ids, hoisted}
use Rattle.matter_idl.specs.reading.{verdict_at}
use Rattle.matter_idl.specs.sections.{sections}
use Rattle.matter_idl.specs.survey.{number_width, items_of, accepted_items, ReportEntry, sound, spoilt, report_entry, report_entries, report_layout, entry_words, report_bytes}
use Rattle.matter_idl.specs.answers.reading.{VerdictAtTo}
use Rattle.matter_idl.specs.inner.sections.{others, FirstSection}
use Rattle.matter_idl.specs.inner.survey.{verdict_word, entry_of, PlaceFits, words_of, AcceptedBits, Remembered}
use Rattle.matter_idl.specs.declared.sections.Section.{Section}
use Rattle.std.specs.Prelude.{Ok, Err}
use Rattle.lexing.specs.answers.{number_of}
use Rattle.matter_idl.specs.declared.reading.Refused.{Refused}
use Rattle.matter_idl.specs.answers.reading.{Verdict}
use Rattle.matter_idl.proofs.Cutting.{sections_count}
use Rattle.matter_idl.proofs.Places.{hoisted_words}
use Rattle.matter_idl.proofs.sections.Laws.{sections_some}
use Rattle.matter_idl.proofs.survey.Remembered.{bits_more, judged_of}

-- The report.

-- one word for each entry
words_are : (b n : ℕ) (v : Verdict) → entry_words report_layout (entry_of b n v) ≡ verdict_word b n v ∷ []
unfolding entry_words report_layout
words_are b n (Ok m) = refl
words_are b n (Err r) = refl

pub put_entry : (b n : ℕ) (v : Verdict) (at w : ℕ) (old new : List ℕ) → w ≡ verdict_word b n v → new ≡ put at (big_endian 8 w) old → new ≡ put at (report_bytes report_layout (entry_of b n v ∷ [])) old
unfolding report_bytes each
put_entry b n v at w old new e h = rw (words_are b n v, ← e) (put_one at w old new h)

entry_words_count : (l : List ReportEntry) → length (each (entry_words report_layout) l) ≡ length l
unfolding each entry_words report_layout
entry_words_count [] = refl
entry_words_count (sound b n ∷ l) = ap suc (entry_words_count l)
entry_words_count (spoilt b n k p ∷ l) = ap suc (entry_words_count l)

pub report_length : (l : List ReportEntry) → length (report_bytes report_layout l) ≡ 8 * length l
unfolding report_bytes
report_length l = words_bytes_length (each (entry_words report_layout) l) ∙ ap (λ n. 8 * n) (entry_words_count l)

pub report_append : (k l : List ReportEntry) → report_bytes report_layout (k ++ l) ≡ report_bytes report_layout k ++ report_bytes report_layout l
unfolding report_bytes
report_append k l = rw (each_append (entry_words report_layout) k l) (words_bytes_append (each (entry_words report_layout) k) (each (entry_words report_layout) l))

pub fits_told : (v : Verdict) {r : Refused} → PlaceFits v → v ≡ Err r → (number_of r.refusal < 2 ^ number_width) × (r.value ≤ text_limit)
fits_told v h e = subst (λ (x : Verdict). PlaceFits x) e h

-- an entry for each section
pub entries_count : (b : ℕ) (ss : List (List ℕ)) → length (report_entries b ss) ≡ length ss
unfolding report_entries
entries_count b [] = refl
entries_count b (s ∷ ss) = ap suc (entries_count (b + length s) ss)

-- Sections.

-- what the i sections before c come to, and those from c on; last says that there are none
pub record Passed (t : List ℕ) (i c : ℕ) (last : Bool) (seen : List ReportEntry) (items : List Item) : Type 0 where
  pub inside : c ≤ length t
  pub count : length (sections t) ≡ i + length (others last (drop c t))
  pub number : length seen ≡ i
  pub seen_are : report_entries 0 (sections t) ≡ seen ++ report_entries c (others last (drop c t))
  pub items_are : accepted_items 0 (sections t) ≡ items ++ accepted_items c (others last (drop c t))

pub passed_start : (t : List ℕ) → Passed t 0 0 false [] []
passed_start t = record { inside = omega arith; count = omega arith; number = refl; seen_are = refl; items_are = refl }

module _ {t : List ℕ} {i c : ℕ} {last : Bool} {seen : List ReportEntry} {items : List Item} (p : Passed t i c last seen items) where
  pub last_is : last ≡ leb (length (sections t)) i
  last_is = go last p.count
    where
      go : (l : Bool) → length (sections t) ≡ i + length (others l (drop c t)) → l ≡ leb (length (sections t)) i
      go true n = sym (le-leb (length (sections t)) i (omega arith))
      go false n = sym (lt-leb (length (sections t)) i (omega (arith, sections_some (drop c t))))

  -- all of them
  module _ (e : last ≡ true) where
    pub all_counted : i ≡ length (sections t)
    all_counted = omega (arith, rw e at p.count)

    pub all_seen : report_entries 0 (sections t) ≡ seen
    unfolding report_entries
    all_seen = p.seen_are ∙ rw e (append-nil seen)

    pub all_accepted : accepted_items 0 (sections t) ≡ items
    unfolding accepted_items
    all_accepted = p.items_are ∙ rw e (append-nil items)

  -- one more
  module _ (e : last ≡ false) where
    pub more : i < length (sections t)
    more = omega (arith, rw e at p.count, sections_some (drop c t))

    module _ {r : List ℕ} (q : Rest 0 t c r) {w : Section} (f : FirstSection w c r) {s : List ℕ} (d : s ≡ take (w.end - c) (drop c t)) where
      rest_now : r ≡ drop c t
      rest_now = let z : c - 0 ≡ c = omega arith in rw z at q.same

      after_now : drop (w.end - c) r ≡ drop w.end t
      after_now = let z : w.end - 0 ≡ w.end = omega arith in ap (drop (w.end - c)) q.same ∙ (rebase 0 c w.end t (omega arith) f.from ∙ rw z refl)

      pub left_is : others last (drop c t) ≡ s ∷ others w.last (drop w.end t)
      left_is = rw e (ap sections (sym rest_now) ∙ (f.is ∙ rw (after_now, rest_now, ← d) refl))

      pub section_ends : c + length s ≡ w.end
      section_ends = rw (d, length-take, length-drop) (omega (arith, f.from, f.inside, q.size))

      pub passed_more : Passed t (i + 1) w.end w.last (seen ++ (report_entry c (length s) (verdict_at c s) ∷ [])) (items ++ items_of (verdict_at c s))
      unfolding report_entries accepted_items
      passed_more = record {
        inside = omega (arith, f.inside, q.size);
        count = omega (arith, p.count, ap length left_is);
        number = omega (arith, length-append seen (report_entry c (length s) (verdict_at c s) ∷ []), p.number);
        seen_are = p.seen_are ∙ rw (left_is, section_ends, append_assoc) refl;
        items_are = p.items_are ∙ rw (left_is, section_ends, append_assoc) refl;
      }

-- The first pass.

pub words_more : (k l : List Item) → word_count layout (hoisted no_ids (k ++ l)) ≡ word_count layout (hoisted no_ids k) + word_count layout (hoisted no_ids l)
words_more k l = rw (hoisted_words no_ids (k ++ l), hoisted_words no_ids k, hoisted_words no_ids l, each_append unhoisted_item k l) (word_count_append (each unhoisted_item k) (each unhoisted_item l))

verdict_words : (v : Verdict) (b : ℕ) (u : List ℕ) → VerdictAtTo v b u → (word_count layout (hoisted no_ids (items_of (verdict_at b u))) ≡ words_of v) × (words_of v ≤ 8 * length u)
unfolding items_of hoisted
verdict_words (Ok n) b u h = (rw (h.is, items_of) (h.words no_ids), h.few)
verdict_words (Err r) b u h = (rw (h.is, items_of) word_count_none, omega arith)

pub record CountingSections (t : List ℕ) (i c : ℕ) (last : Bool) (n : ℕ) (bits : List ℕ) : Type 0 where
  pub seen : List ReportEntry
  pub items : List Item
  pub passed : Passed t i c last seen items
  pub words : n ≡ word_count layout (hoisted no_ids items)
  pub few : n ≤ 8 * c
  pub true_bits : AcceptedBits bits seen

pub sections_start : (t : List ℕ) {bits : List ℕ} → AcceptedBits bits [] → CountingSections t 0 0 false 0 bits
unfolding hoisted
sections_start t m = record { seen = []; items = []; passed = passed_start t; words = sym word_count_none; few = omega arith; true_bits = m }

pub sections_more : {t : List ℕ} {i c n : ℕ} {bits : List ℕ} → CountingSections t i c false n bits → length t ≤ text_limit → {r : List ℕ} → Rest 0 t c r → {w : Section} → FirstSection w c r → {s : List ℕ} → s ≡ take (w.end - c) (drop c t) → (v : Verdict) → VerdictAtTo v c s → {k : ℕ} → k ≡ words_of v → {new : List ℕ} → Remembered new bits i v → {last : Bool} → w.last ≡ last
    → CountingSections t (i + 1) w.end last (n + k) new
sections_more {c = c} h l q f {s} d v j z y e =
    let x = verdict_words v c s j in
    let o = section_ends h.passed refl q f d in
    let p = passed_more h.passed refl q f d in
    record {
      seen = _;
      items = _;
      passed = rw e at p;
      words = omega (arith, z, x.0, h.words, words_more h.items (items_of (verdict_at c s)));
      few = omega (arith, z, x.1, h.few, o);
      true_bits = bits_more v h.true_bits h.passed.number (judged_of v c s j (omega (arith, o, p.inside))) y;
    }

pub sections_end : {t : List ℕ} {i c n : ℕ} {bits : List ℕ} → CountingSections t i c true n bits → (i ≡ length (sections t)) × ((i ≤ 1 + length t) × ((n ≡ word_count layout (hoisted no_ids (accepted_items 0 (sections t)))) × ((n ≤ 8 * length t) × AcceptedBits bits (report_entries 0 (sections t)))))
sections_end {t} h =
    let k = all_counted h.passed refl in
    (k, (omega (arith, sections_count t), (rw (all_accepted h.passed refl) h.words, (omega (arith, h.few, h.passed.inside), rw (all_seen h.passed refl) h.true_bits))))
