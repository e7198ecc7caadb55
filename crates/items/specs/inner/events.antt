-- What the readers and writers of events promise.
use Rattle.std.specs.Prelude.{ℕ, ◌-◌, ◌≤◌, ◌<◌, List, [], ◌∷◌}
use Rattle.lexing.specs.bytes.{ascii}
use Rattle.lexing.specs.reply.{Parser, ◌>>◌}
use Rattle.lexing.specs.words.{keyword}
use Rattle.lexing.specs.blanks.{Doc, whitespace1}
use Rattle.lexing.specs.answers.{ReadTo, word_between, doc_of, Read}
use Rattle.items.specs.members.{EventQualities as EventQualitiesOf, event_qualities, EventHead as EventHeadOf, event_head, parse_event_after_doc_maturity}
use Rattle.items.specs.answers.{maturity_number, Front, CountsTo, privilege_number, priority_number}
use Rattle.items.specs.records.{Record, event_records, at, bits, value, documented}
use Rattle.items.specs.declared.events.EventQualitiesParts.{EventQualitiesParts}
use Rattle.items.specs.declared.events.EventHeadParts.{EventHeadParts}
use Rattle.items.specs.declared.writing.FrontParts.{FrontParts}

-- up to an event's name
abbrev pub event_qualities_of : EventQualitiesParts → EventQualitiesOf
event_qualities_of h = record { sensitive = h.sensitive; rank = priority_number h.rank; privilege = privilege_number h.privilege }

abbrev pub EventQualitiesTo : Read EventQualitiesParts → ℕ → List ℕ → Type 0
EventQualitiesTo r b u = ReadTo (λ b u h. event_qualities_of h) (λ b h c. h.sensitive < 2) event_qualities r b u

-- up to an event's fields
abbrev pub event_head_at : ℕ → List ℕ → EventHeadParts → EventHeadOf
event_head_at b u h = record { sensitive = h.sensitive; rank = priority_number h.rank; privilege = privilege_number h.privilege; id = word_between b u h.name h.end; number = h.code }

pub record EventHeadBetween (b : ℕ) (h : EventHeadParts) (c : ℕ) : Type 0 where
  pub sensitive : h.sensitive < 2
  pub name_from : b ≤ h.name
  pub name_to : h.name ≤ h.end
  pub before : h.end ≤ c

abbrev pub EventHeadTo : Read EventHeadParts → ℕ → List ℕ → Type 0
EventHeadTo r b u = ReadTo event_head_at EventHeadBetween event_head r b u

abbrev pub EventCountTo : Read ℕ → ℕ → List ℕ → Type 0
EventCountTo r b u = CountsTo {I = Front} (λ i. event_records) (λ i. parse_event_after_doc_maturity i.doc i.maturity) r b u

-- the word between an event's priority and its privilege
abbrev pub event_word : Parser Doc
event_word = do
  whitespace1
  keyword (ascii "event")
  whitespace1

-- the first record of an event, by offsets
abbrev pub event_first : FrontParts → EventHeadParts → Record
event_first f h = documented 9 0 (maturity_number f.maturity) (doc_of f.doc) (bits 2 (priority_number h.rank) ∷ bits 1 h.sensitive ∷ []) (at h.name (h.end - h.name)) (privilege_number h.privilege) 0 (value h.code ∷ [])
