-- What the readers and writers of enums and bitmaps promise.
use Rattle.std.specs.Prelude.{ℕ, ◌≤◌, ◌<◌, ◌-◌, List, [], ◌∷◌, Ok}
use Rattle.lexing.specs.reply.{opt}
use Rattle.lexing.specs.answers.{ReadTo, Skips, word_between, doc_of, Read}
use Rattle.items.specs.entries.{shared_before, ChoiceHead as ChoiceHeadOf, choice_head, choice_after_doc_maturity}
use Rattle.items.specs.records.{choice_records, Record, at, spanned, flag, documented}
use Rattle.items.specs.answers.{maturity_number, Front, CountsTo, kind_number}
use Rattle.items.specs.declared.choices.ChoiceHeadParts.{ChoiceHeadParts}
use Rattle.items.specs.declared.writing.FrontParts.{FrontParts}

-- where an enum or a bitmap goes on: after `shared` and its blanks, or at its start where they are not there
abbrev pub ChoiceFrom : ℕ → ℕ → List ℕ → Type 0
ChoiceFrom f b u = Skips (opt shared_before) (Ok f) b u

-- an enum or a bitmap up to its entries
abbrev pub choice_head_at : ℕ → List ℕ → ChoiceHeadParts → ChoiceHeadOf
choice_head_at b u h = record { head_shared = h.shared; head_name = word_between b u h.name h.end; head_base = word_between b u h.base_at h.base_end }

pub record ChoiceHeadBetween (b : ℕ) (h : ChoiceHeadParts) (c : ℕ) : Type 0 where
  pub name_from : b ≤ h.name
  pub name_to : h.name < h.end
  pub base_from : h.end ≤ h.base_at
  pub base_to : h.base_at ≤ h.base_end
  pub before : h.base_end ≤ c

abbrev pub ChoiceHeadTo : List ℕ → Read ChoiceHeadParts → ℕ → List ℕ → Type 0
ChoiceHeadTo k r b u = ReadTo choice_head_at ChoiceHeadBetween (choice_head k) r b u

abbrev pub ChoiceCountTo : List ℕ → Read ℕ → ℕ → List ℕ → Type 0
ChoiceCountTo k r b u = CountsTo {I = Front} (λ i. choice_records i.kind i.place) (λ i. choice_after_doc_maturity k i.doc i.maturity) r b u

-- the first record, by offsets
abbrev pub choice_first : FrontParts → ChoiceHeadParts → Record
choice_first f h =
    documented (kind_number f.kind) f.place (maturity_number f.maturity) (doc_of f.doc) (flag h.shared ∷ []) (at h.name (h.end - h.name)) 0 0
    (spanned (at h.base_at (h.base_end - h.base_at)) ∷ [])
