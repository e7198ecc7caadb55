-- The verdict on a section in the second pass: by its bit, or judged once more.
use mathlib.Core.Path.{◌≡◌, refl, sym, ap, ◌∙◌}
use mathlib.Core.Bool.{Bool, true, false, false≢true}
use Rattle.std.specs.Prelude.{Option, None, Some}
use mathlib.Core.List.{List, [], ◌∷◌, ◌++◌, append-nil}
use Prim.Native.Nat.{ℕ, zero, suc, ◌+◌, ◌-◌, ◌*◌, ◌≤◌}
use native.Mathlib.Omega.{arith}
use native.Mathlib.Decide.{ℕ_discrete}
use lib.ListN.{length, drop, get_or, replicate, get_or-eq_default}
use lib.Seq.{get_or_at}
use Rattle.lexing.specs.outcomes.{part_numbers}
use Rattle.lexing.proofs.Numbers.{number_less}
use Rattle.lexing.specs.reply.{Reply, ok, fail, stop}
use Rattle.lexing.specs.utf8.{utf8_error}
use Rattle.lexing.proofs.Slicing.{suf_drop}
use Rattle.items.specs.items.{Item}
use Rattle.lexing.specs.buffers.{each}
use Rattle.items.specs.layout.{layout, word_count, text_limit}
use Rattle.items.specs.answers.{Room}
use Rattle.items.specs.answers.items.{unhoisted_item}
use Rattle.items.specs.declared.writing.Wrote.{Wrote}
use Rattle.matter_idl.specs.hoisting.{no_ids, hoisted}
use Rattle.matter_idl.specs.reading.{all_items, Verdict as VerdictOf, accepted, turned_down, by_reply, by_utf8, verdict_at}
use Rattle.matter_idl.specs.survey.{items_of, ReportEntry, sound, report_entry}
use Rattle.matter_idl.specs.answers.reading.{VerdictAtTo}
use Rattle.matter_idl.specs.inner.reading.{HoistedItemsTo}
use Rattle.matter_idl.specs.inner.bits.{has_bit, BitSet}
use Rattle.matter_idl.specs.inner.survey.{is_sound, no_entry, AcceptedBits, Remembered, accepted_alone, Judged, SectionAfterTo}
use Rattle.std.specs.Prelude.{Ok, Err}
use Rattle.lexing.specs.answers.{number_of}
use Rattle.matter_idl.specs.declared.reading.Refused.{Refused}
use Rattle.matter_idl.specs.answers.reading.{Verdict}
use Rattle.matter_idl.proofs.bits.Laws.{none_set}
use Rattle.matter_idl.proofs.Places.{hoisted_words}
use Rattle.matter_idl.proofs.reading.Judged.{all_on}

-- Marks.

-- an entry more is told apart from those before it by its number
other_entry : (es : List ReportEntry) (e : ReportEntry) (j : ℕ) → (j ≡ length es → ⊥) → get_or (es ++ (e ∷ [])) j no_entry ≡ get_or es j no_entry
other_entry [] e zero h = absurd (h refl)
other_entry [] e (suc j) h = refl
other_entry (x ∷ es) e zero h = refl
other_entry (x ∷ es) e (suc j) h = other_entry es e j (λ z. h (ap suc z))

-- a section's own bit, and the others as they were
bits_with : {new bits : List ℕ} {es : List ReportEntry} {i : ℕ} → AcceptedBits bits es → length es ≡ i → (e : ReportEntry) → has_bit new i ≡ is_sound e → ((j : ℕ) → (j ≡ i → ⊥) → has_bit new j ≡ has_bit bits j) → AcceptedBits new (es ++ (e ∷ []))
bits_with {new} {bits} {es} {i} m z e here others = record { each_bit = λ j. go j (ℕ_discrete j i) }
  where
    go : (j : ℕ) → Dec (j ≡ i) → has_bit new j ≡ is_sound (get_or (es ++ (e ∷ [])) j no_entry)
    go j (yes y) = rw (y, get_or_at es e [] no_entry i z) here
    go j (no y) = others j y ∙ (m.each_bit j ∙ ap is_sound (sym (other_entry es e j (λ d. y (d ∙ z)))))

pub bits_more : (v : Verdict) {new bits : List ℕ} {es : List ReportEntry} {i : ℕ} → AcceptedBits bits es → length es ≡ i → {b : ℕ} {u : List ℕ} → Judged v b u → Remembered new bits i v → AcceptedBits new (es ++ (report_entry b (length u) (verdict_at b u) ∷ []))
bits_more (Ok n) m z x r = bits_with m z _ (r.is ∙ ap is_sound x.is) r.others
bits_more (Err k) {es = es} {i = i} m z x r =
    rw r (bits_with m z _ (m.each_bit i ∙ (ap is_sound (get_or-eq_default es no_entry (omega arith)) ∙ ap is_sound x.is)) (λ j h. refl))

-- no section is marked at the start
pub unmarked : (n : ℕ) → AcceptedBits (replicate n 0) []
unmarked n = record { each_bit = none_set n }

pub remembered_refused : {v : Verdict} {r : Refused} → v ≡ Err r → (bits : List ℕ) (i : ℕ) → Remembered bits bits i v
remembered_refused e bits i = rw e refl

pub remembered_accepted : {v : Verdict} {n : ℕ} → v ≡ Ok n → {new bits : List ℕ} {i : ℕ} → BitSet new bits i → Remembered new bits i v
remembered_accepted e b = rw e b

-- Verdicts.

pub judged_of : (v : Verdict) (b : ℕ) (u : List ℕ) → VerdictAtTo v b u → b + length u ≤ text_limit → Judged v b u
unfolding report_entry
judged_of (Ok n) b u h l = record { is = rw (h.is, report_entry) refl; fits = tt }
judged_of (Err r) b u h l = record { is = rw (h.is, report_entry) refl; fits = (number_less 16 part_numbers refl (number_of r.refusal) h.number, omega (arith, h.inside)) }

pub judged_marked : {a : Bool} {b : ℕ} {u : List ℕ} → a ≡ accepted_alone b u → a ≡ true → (n : ℕ) → Judged (Ok n) b u
unfolding report_entry
judged_marked {b = b} {u = u} m h n = record { is = go (verdict_at b u) (sym m ∙ h); fits = tt }
  where
    go : (v : VerdictOf) → is_sound (report_entry b (length u) v) ≡ true → sound b (length u) ≡ report_entry b (length u) v
    go (accepted l) k = refl
    go (turned_down x p) k = absurd (false≢true k)

refused_items : {a : Bool} (b : ℕ) (u : List ℕ) → a ≡ accepted_alone b u → a ≡ false → items_of (verdict_at b u) ≡ []
unfolding report_entry items_of
refused_items b u m h = go (verdict_at b u) (sym h ∙ m)
  where
    go : (v : VerdictOf) → false ≡ is_sound (report_entry b (length u) v) → items_of v ≡ []
    go (accepted l) e = absurd (false≢true e)
    go (turned_down x q) e = refl

-- what an accepted section reads
accepted_reads : {n b : ℕ} {u : List ℕ} → Judged (Ok n) b u → (c : ℕ) × (ok (items_of (verdict_at b u)) c (drop (c - b) u) ≡ all_items b u)
unfolding report_entry items_of verdict_at by_utf8 by_reply
accepted_reads {n} {b} {u} h = go (utf8_error b u) refl (all_items b u) refl
  where
    spoiled : {k p : ℕ} → verdict_at b u ≡ turned_down k p → ⊥
    spoiled e = let y = rw (e, report_entry) at h.is in let z : ◌≡◌ {A = ℕ} 0 1 = cc in omega arith

    go : (o : Option ℕ) → utf8_error b u ≡ o → (r : Reply (List Item)) → all_items b u ≡ r → (c : ℕ) × (ok (items_of (verdict_at b u)) c (drop (c - b) u) ≡ all_items b u)
    go (Some p) e r f = absurd (spoiled {k = 2} {p = p} (rw (e, by_utf8) refl))
    go None e (fail p) f = absurd (spoiled {k = 3} {p = p} (rw (e, f, by_utf8, by_reply) refl))
    go None e (stop k p) f = absurd (spoiled {k = k} {p = p} (rw (e, f, by_utf8, by_reply) refl))
    go None e (ok l c r) f =
        let m = rw f at (all_on.onward b u) in
        let z : length u - length r ≡ c - b = omega (arith, m.1) in
        let y : r ≡ drop (c - b) u = rw z at (suf_drop m.0) in
        let x : items_of (verdict_at b u) ≡ l = rw (e, f, by_utf8, by_reply, items_of) refl in
        (c, rw (x, f, ← y) refl)

-- The records of a section after those before it.
module _ {a : Bool} (b : ℕ) (u : List ℕ) (h : a ≡ accepted_alone b u) where
  pub refused_after : a ≡ false → {t out filter : List ℕ} {at : ℕ} → SectionAfterTo out filter t out filter at b u at
  refused_after e {at = at} f =
      let z : at - at ≡ 0 = omega arith in
      record { front = f; front_items = rw (refused_items b u h e) (sym (append-nil f.items)); front_tail = rw z refl }

  module _ (e : a ≡ true) where
    reads : (c : ℕ) × (ok (items_of (verdict_at b u)) c (drop (c - b) u) ≡ all_items b u)
    reads = accepted_reads (judged_marked h e 0)

    pub judged_room : {at size : ℕ} → at + 8 * word_count layout (hoisted no_ids (items_of (verdict_at b u))) ≤ size → Room (each unhoisted_item) all_items b u at size
    judged_room l = record { value = items_of (verdict_at b u); next = reads.0; is = reads.1; fits = omega (arith, hoisted_words no_ids (items_of (verdict_at b u)), l) }

    pub accepted_after : {new filter t old filter₀ : List ℕ} {at : ℕ} {w : Wrote} → HoistedItemsTo new filter t old filter₀ at b u w → SectionAfterTo new filter t old filter₀ at b u w.to
    accepted_after g f =
        let k = g f in
        let z = reads.1 ∙ sym k.is in
        let y : k.items ≡ items_of (verdict_at b u) = cc in
        record { front = k.front; front_items = k.front_items ∙ ap (λ (l : List Item). f.items ++ l) y; front_tail = k.front_tail }
