-- What the code of the survey holds of a verdict, and what its steps promise.
use Rattle.std.specs.Prelude.{ℕ, ◌^◌, ◌-◌, ◌≤◌, ◌<◌, ◌≡◌, Bool, true, false, List, ◌++◌, length, get_or, drop, Ok, Err}
use Rattle.items.specs.layout.{packed, offset_width, text_limit}
use Rattle.matter_idl.specs.reading.{verdict_at}
use Rattle.matter_idl.specs.survey.{items_of, ReportEntry, sound, spoilt, report_entry, number_width, report_row}
use Rattle.matter_idl.specs.inner.bits.{has_bit, BitSet}
use Rattle.matter_idl.specs.inner.reading.{HoistedFront}
use Rattle.lexing.specs.answers.{number_of}
use Rattle.matter_idl.specs.answers.reading.{Verdict}

-- the word of an entry of the report
abbrev pub entry_word : (start size number place : ℕ) → ℕ
entry_word b n k p = packed 0 (report_row offset_width b n k p)

abbrev pub verdict_word : (start size : ℕ) → Verdict → ℕ
verdict_word b n (Ok m) = entry_word b n 0 0
verdict_word b n (Err r) = entry_word b n (number_of r.refusal) r.value

abbrev pub entry_of : (start size : ℕ) → Verdict → ReportEntry
entry_of b n (Ok m) = sound b n
entry_of b n (Err r) = spoilt b n (number_of r.refusal) r.value

-- a number and a place that the word has room for
abbrev pub PlaceFits : Verdict → Type 0
PlaceFits (Ok m) = Unit {0}
PlaceFits (Err r) = (number_of r.refusal < 2 ^ number_width) × (r.value ≤ text_limit)

abbrev pub words_of : Verdict → ℕ
words_of (Ok m) = m
words_of (Err r) = 0

-- Which sections are accepted, as the first pass remembers it.

abbrev pub is_sound : ReportEntry → Bool
is_sound (sound b n) = true
is_sound (spoilt b n k p) = false

-- what is after the last entry
abbrev pub no_entry : ReportEntry
no_entry = spoilt 0 0 0 0

-- the bit of a section's number says whether it is accepted
pub record AcceptedBits (bits : List ℕ) (es : List ReportEntry) : Type 0 where
  pub each_bit : (j : ℕ) → has_bit bits j ≡ is_sound (get_or es j no_entry)

abbrev pub Remembered : (new old : List ℕ) → ℕ → Verdict → Type 0
Remembered new old i (Ok m) = BitSet new old i
Remembered new old i (Err r) = new ≡ old

-- whether a section is accepted
abbrev pub accepted_alone : ℕ → List ℕ → Bool
accepted_alone b u = is_sound (report_entry b (length u) (verdict_at b u))

-- a section's number has a bit, which says whether it is accepted
pub record BitTrue (bits : List ℕ) (i b : ℕ) (u : List ℕ) : Type 0 where
  pub place : i < 2 ^ 19
  pub mark : has_bit bits i ≡ accepted_alone b u

-- a verdict that is a section's, whatever its words
pub record Judged (v : Verdict) (b : ℕ) (u : List ℕ) : Type 0 where
  pub is : entry_of b (length u) v ≡ report_entry b (length u) (verdict_at b u)
  pub fits : PlaceFits v

-- the items of a section, if it is accepted, hoisted after those before; the rest of the buffer is as it was
pub record SectionAfter {t old filter₀ : List ℕ} {at : ℕ} (f : HoistedFront t old filter₀ at) (b : ℕ) (u : List ℕ) (to : ℕ) (new filter : List ℕ) : Type 0 where
  pub front : HoistedFront t new filter to
  pub front_items : front.items ≡ f.items ++ items_of (verdict_at b u)
  pub front_tail : front.tail ≡ drop (to - at) f.tail

abbrev pub SectionAfterTo : (new filter t old filter₀ : List ℕ) → ℕ → ℕ → List ℕ → ℕ → Type 0
SectionAfterTo new filter t old filter₀ at b u to = (f : HoistedFront t old filter₀ at) → SectionAfter f b u to new filter
