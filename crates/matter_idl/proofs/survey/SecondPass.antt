-- The second pass of the survey: both buffers, section by section.
use mathlib.Core.Path.{◌≡◌, refl, sym, ap, ◌∙◌}
use mathlib.Core.Bool.{Bool, true, false}
use mathlib.Core.List.{List, [], ◌∷◌, ◌++◌}
use Prim.Native.Nat.{ℕ, ◌+◌, ◌-◌, ◌*◌, ◌≤◌, ◌<◌}
use native.Mathlib.Omega.{arith}
use lib.ListN.{length, take, drop, get_or, length-append, length-drop}
use lib.Seq.{drop-drop, get_or_at}
use borrow.Author.Tests.{le-leb, lt-leb}
use Rattle.lexing.specs.answers.{Rest}
use Rattle.items.specs.items.{Item}
use Rattle.lexing.specs.buffers.{each, words_bytes, put}
use Rattle.items.specs.layout.{layout, catalogue_bytes, word_count, text_limit}
use Rattle.items.proofs.RecordWords.{catalogue_bytes_length}
use Rattle.lexing.proofs.buffers.Laws.{put_length, put_nothing, put_on}
use Rattle.matter_idl.specs.hoisting.{no_ids, hoisted}
use Rattle.matter_idl.specs.reading.{verdict_at}
use Rattle.matter_idl.specs.sections.{sections}
use Rattle.matter_idl.specs.survey.{items_of, accepted_items, ReportEntry, report_entry, report_entries, report_layout, report_bytes}
use Rattle.matter_idl.specs.inner.reading.{HoistedFront}
use Rattle.matter_idl.specs.inner.sections.{FirstSection}
use Rattle.matter_idl.specs.inner.survey.{entry_of, is_sound, no_entry, AcceptedBits, BitTrue, Judged, SectionAfterTo}
use Rattle.matter_idl.specs.declared.sections.Section.{Section}
use Rattle.matter_idl.specs.answers.reading.{Verdict}
use Rattle.matter_idl.proofs.Cutting.{section_number}
use Rattle.matter_idl.proofs.reading.Marked.{put_after, front_none}
use Rattle.matter_idl.proofs.survey.Laws.{report_length, report_append, Passed, passed_start, last_is, all_seen, all_accepted, left_is, section_ends, passed_more, words_more}

-- the records and the entries of the sections before c are written
pub record WritingSections (t cat₀ rep₀ : List ℕ) (i c to : ℕ) (cat filter rep : List ℕ) : Type 0 where
  pub last : Bool
  pub seen : List ReportEntry
  pub items : List Item
  pub passed : Passed t i c last seen items
  pub front : HoistedFront t cat filter to
  pub front_items : front.items ≡ items
  pub front_tail : front.tail ≡ drop to cat₀
  pub report : rep ≡ put 0 (report_bytes report_layout seen) rep₀

pub writing_start : (t cat rep : List ℕ) {filter : List ℕ} → WritingSections t cat rep 0 0 0 cat filter rep
unfolding front_none report_bytes words_bytes each
writing_start t cat rep = record { last = false; seen = []; items = []; passed = passed_start t; front = front_none t cat; front_items = refl; front_tail = refl; report = sym (put_nothing 0 rep) }

module _ {t cat₀ rep₀ : List ℕ} {i c to : ℕ} {cat filter rep : List ℕ} (h : WritingSections t cat₀ rep₀ i c to cat filter rep) (room : 8 * word_count layout (hoisted no_ids (accepted_items 0 (sections t))) ≤ length cat₀) (rows : 8 * length (sections t) ≤ length rep₀) where
  to_is : to ≡ 8 * word_count layout (hoisted no_ids h.items)
  to_is = h.front.ends ∙ ap (λ (l : List Item). 8 * word_count layout (hoisted no_ids l)) h.front_items

  words_in : (l k : List Item) → accepted_items 0 (sections t) ≡ l ++ k → 8 * word_count layout (hoisted no_ids l) ≤ length cat₀
  words_in l k e = omega (arith, room, ap (λ (x : List Item). word_count layout (hoisted no_ids x)) e, words_more l k)

  pub catalogue_same : length cat ≡ length cat₀
  catalogue_same =
      let l = h.front.items in
      omega (arith, to_is, words_in h.items _ h.passed.items_are, h.front.ends, ap length h.front.bytes, length-append (catalogue_bytes layout (hoisted no_ids l)) h.front.tail, catalogue_bytes_length (hoisted no_ids l), ap length h.front_tail, length-drop to cat₀)

  seen_in : length (report_bytes report_layout h.seen) ≤ length rep₀
  seen_in = omega (arith, report_length h.seen, h.passed.number, h.passed.count, rows)

  pub report_same : length rep ≡ length rep₀
  report_same = ap length h.report ∙ put_length 0 (report_bytes report_layout h.seen) rep₀ (omega (arith, seen_in))

  -- all sections
  module _ (all : length (sections t) ≤ i) where
    is_last : h.last ≡ true
    is_last = last_is h.passed ∙ le-leb _ _ all

    pub catalogue_written : cat ≡ put 0 (catalogue_bytes layout (hoisted no_ids (accepted_items 0 (sections t)))) cat₀
    catalogue_written =
        let xs = catalogue_bytes layout (hoisted no_ids h.items) in
        let z : length xs ≡ to = omega (arith, to_is, catalogue_bytes_length (hoisted no_ids h.items)) in
        rw (all_accepted h.passed is_last) (h.front.bytes ∙ (rw (h.front_items, h.front_tail, ← z) refl ∙ sym (put_after 0 [] xs cat₀ refl)))

    pub report_written : rep ≡ put 0 (report_bytes report_layout (report_entries 0 (sections t))) rep₀
    report_written = rw (all_seen h.passed is_last) h.report

  -- one more
  module _ (more : i < length (sections t)) {r : List ℕ} (q : Rest 0 t c r) {w : Section} (f : FirstSection w c r) {s : List ℕ} (d : s ≡ take (w.end - c) (drop c t)) where
    not_last : h.last ≡ false
    not_last = last_is h.passed ∙ lt-leb _ _ more

    pub ends : c + length s ≡ w.end
    ends = section_ends h.passed not_last q f d

    next : Passed t (i + 1) w.end w.last (h.seen ++ (report_entry c (length s) (verdict_at c s) ∷ [])) (h.items ++ items_of (verdict_at c s))
    next = passed_more h.passed not_last q f d

    this_entry : get_or (report_entries 0 (sections t)) i no_entry ≡ report_entry c (length s) (verdict_at c s)
    unfolding report_entries
    this_entry = rw (h.passed.seen_are, left_is h.passed not_last q f d) (get_or_at h.seen _ _ no_entry i h.passed.number)

    pub this_mark : length t ≤ text_limit → {bits : List ℕ} → AcceptedBits bits (report_entries 0 (sections t)) → BitTrue bits i c s
    this_mark l m = record { place = section_number t l more; mark = m.each_bit i ∙ ap is_sound this_entry }

    pub words_room : to + 8 * word_count layout (hoisted no_ids (items_of (verdict_at c s))) ≤ length cat
    words_room = omega (arith, catalogue_same, to_is, words_more h.items (items_of (verdict_at c s)), words_in (h.items ++ items_of (verdict_at c s)) _ next.items_are)

    pub writing_more : (v : Verdict) → Judged v c s → {rep' : List ℕ} → rep' ≡ put (8 * i) (report_bytes report_layout (entry_of c (w.end - c) v ∷ [])) rep → {to' : ℕ} {cat' filter' : List ℕ} → SectionAfterTo cat' filter' t cat filter to c s to' → WritingSections t cat₀ rep₀ (i + 1) w.end to' cat' filter' rep'
    writing_more v j {rep'} y {to'} g =
        let k = g h.front in
        let l = h.items ++ items_of (verdict_at c s) in
        let this = report_entry c (length s) (verdict_at c s) in
        let same_items : k.front.items ≡ l = k.front_items ∙ ap (λ (x : List Item). x ++ items_of (verdict_at c s)) h.front_items in
        let up : to + (to' - to) ≡ to' = omega (arith, to_is, k.front.ends, ap (λ (x : List Item). word_count layout (hoisted no_ids x)) same_items, words_more h.items (items_of (verdict_at c s))) in
        let size : w.end - c ≡ length s = omega (arith, ends) in
        let y' : rep' ≡ put (8 * i) (report_bytes report_layout (this ∷ [])) rep = rw (size, j.is) at y in
        record {
          last = _;
          seen = _;
          items = _;
          passed = next;
          front = k.front;
          front_items = same_items;
          front_tail = k.front_tail ∙ (ap (drop (to' - to)) h.front_tail ∙ (drop-drop (to' - to) to cat₀ ∙ rw up refl));
          report = rw (report_append h.seen (this ∷ [])) (put_on 0 (8 * i) (report_bytes report_layout h.seen) (report_bytes report_layout (this ∷ [])) rep₀ rep rep' (omega (arith, report_length h.seen, h.passed.number)) (omega (arith, report_length (this ∷ []), rows, more)) h.report y');
        }
