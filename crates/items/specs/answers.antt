-- What the answers of the code say, as replies of the definitions: what the modules share, and each module's own apart.
pub mod items
use Rattle.lexing.specs.declared.answers.LostBy.TheVariants.{Fail, Stop}
use Rattle.std.specs.Prelude.{ℕ, ◌+◌, ◌-◌, ◌*◌, ◌≤◌, ◌<◌, ◌≡◌, Bool, true, false, List, length, drop, Result, Ok, Err, Some, None, Option as CodeOption}
use Rattle.std.proofs.Math.Option.{Option, none, some}
use Rattle.lexing.specs.reply.{Parser, ok, ret, ◌>>=◌, ◌>>◌}
use Rattle.lexing.specs.blanks.{Doc, whitespace0}
use Rattle.lexing.specs.answers.{Answer, got, lost, reply, doc_of, Read, read_answer}
use Rattle.lexing.specs.declared.answers.LostBy.{LostBy}
use Rattle.lexing.specs.declared.blanks.DocSpan.{DocSpan}
use Rattle.items.specs.entries.{api_maturity}
use Rattle.items.specs.clusters.{mapped}
use Rattle.items.specs.records.{Record}
use Rattle.items.specs.layout.{layout, catalogue_bytes, word_count, packed, offset_width, first_row, span_row, text_limit}
use Rattle.lexing.specs.buffers.{put}
use Rattle.items.specs.declared.maturity.Maturity.{Maturity}
use Rattle.items.specs.declared.maturity.Maturity.TheVariants.{Stable, Provisional, Internal, Deprecated}
use Rattle.items.specs.declared.writing.First.{First}
use Rattle.items.specs.declared.writing.Wrote.{Wrote}
use Rattle.items.specs.declared.layout.Kind.{Kind}
use Rattle.items.specs.declared.layout.Kind.TheVariants.{Cluster, Enum, Bitmap, Entry, Struct, Field, Attribute, Command, Event, Endpoint, DeviceType, Binding, Instantiation, AttributeInstance, CommandInstance, EventInstance, Annotation}
use Rattle.items.specs.declared.levels.Privilege.{Privilege}
use Rattle.items.specs.declared.levels.Privilege.TheVariants.{View, Operate, Manage, Administer}
use Rattle.items.specs.declared.levels.Priority.{Priority}
use Rattle.items.specs.declared.levels.Priority.TheVariants.{Critical, Info, Debug}
use Rattle.items.specs.declared.levels.Handling.{Handling}
use Rattle.items.specs.declared.levels.Handling.TheVariants.{Ram, Callback, Persist}
use Rattle.items.specs.declared.writing.FrontParts.{FrontParts}

-- a value that may be absent, by a test, or as the code has it
abbrev pub option_of : {A : Type 0} → Bool → A → Option A
option_of true a = some a
option_of false a = none

abbrev pub maybe : {A : Type 0} → CodeOption A → Option A
maybe (Some a) = some a
maybe None = none

-- a maturity and the blanks after it
abbrev pub maturity_blank : Parser ℕ
maturity_blank = do
  m ← api_maturity
  whitespace0
  ret m

-- a maturity between blanks
abbrev pub maturity_between : Parser ℕ
maturity_between = do
  whitespace0
  maturity_blank

abbrev pub maturity_number : Maturity → ℕ
maturity_number Stable = 0
maturity_number Provisional = 1
maturity_number Internal = 2
maturity_number Deprecated = 3

-- a maturity and where what was read ends
pub record MaturityTo (p : Parser ℕ) (r : Maturity × ℕ) (b : ℕ) (u : List ℕ) : Type 0 where
  pub reads : reply (got (maturity_number r.0) r.1) b u ≡ p b u
  pub up : b ≤ r.1
  pub inside : r.1 ≤ b + length u

-- a declaration by the words that its records take
unfoldable pub counted : {A : Type 0} → (A → List Record) → Parser A → Parser ℕ
counted records m = mapped m (λ a. word_count layout (records a))

abbrev pub count_answer : Read ℕ → Answer ℕ
count_answer = read_answer (λ n. n)

-- every byte read makes eight words at the most, so that no sum of counts overflows
abbrev pub Few : Read ℕ → ℕ → Type 0
Few (Ok r) b = r.0 ≤ 8 * (r.1 - b)
Few (Err l) b = Unit {0}

pub record CountTo {A : Type 0} (records : A → List Record) (m : Parser A) (r : Read ℕ) (b : ℕ) (u : List ℕ) : Type 0 where
  pub reads : reply (count_answer r) b u ≡ counted records m b u
  pub few : Few r b

-- what a declaration's own text does not say: its record's kind and place, and the doc comment and the maturity before it
pub record Front : Type 0 where
  pub kind : ℕ
  pub place : ℕ
  pub doc : Doc
  pub maturity : ℕ

-- a count that is the same whatever is before the declaration
pub record CountsTo {I A : Type 0} (records : I → A → List Record) (m : I → Parser A) (r : Read ℕ) (b : ℕ) (u : List ℕ) : Type 0 where
  pub counts : (i : I) → CountTo (records i) (m i) r b u

-- the count of a repetition, after n words at c, by why its last try was lost
abbrev pub count_end : {R : Type 0} → LostBy R → ℕ → ℕ → Result (ℕ × ℕ) (LostBy R)
count_end (Fail p) n c = Ok (n, c)
count_end (Stop i p) n c = Err (Stop i p)

-- The second pass.

-- a declaration is accepted, and there is room for its records in n bytes from a place on
pub record Room {A : Type 0} (records : A → List Record) (m : Parser A) (b : ℕ) (u : List ℕ) (at n : ℕ) : Type 0 where
  pub value : A
  pub next : ℕ
  pub is : ok value next (drop (next - b) u) ≡ m b u
  pub fits : at + 8 * word_count layout (records value) ≤ n

-- its records are written from a place on; the answer is where reading and writing are then
pub record Written {A : Type 0} (records : A → List Record) (m : Parser A) (b : ℕ) (u : List ℕ) (at : ℕ) (w : Wrote) (old new : List ℕ) : Type 0 where
  pub value : A
  pub is : ok value w.next (drop (w.next - b) u) ≡ m b u
  pub place : w.to ≡ at + 8 * word_count layout (records value)
  pub bytes : new ≡ put at (catalogue_bytes layout (records value)) old

-- the number of a kind of records
abbrev pub kind_number : Kind → ℕ
kind_number Cluster = 1
kind_number Enum = 2
kind_number Bitmap = 3
kind_number Entry = 4
kind_number Struct = 5
kind_number Field = 6
kind_number Attribute = 7
kind_number Command = 8
kind_number Event = 9
kind_number Endpoint = 10
kind_number DeviceType = 11
kind_number Binding = 12
kind_number Instantiation = 13
kind_number AttributeInstance = 14
kind_number CommandInstance = 15
kind_number EventInstance = 16
kind_number Annotation = 17

-- the numbers of levels
abbrev pub privilege_number : Privilege → ℕ
privilege_number View = 0
privilege_number Operate = 1
privilege_number Manage = 2
privilege_number Administer = 3

abbrev pub priority_number : Priority → ℕ
priority_number Critical = 0
priority_number Info = 1
priority_number Debug = 2

abbrev pub handling_number : Handling → ℕ
handling_number Ram = 0
handling_number Callback = 1
handling_number Persist = 2

-- the first word of a record, and what fits it
abbrev pub first_of : First → ℕ
first_of f = packed 0 (first_row offset_width f.kind f.place (maturity_number f.maturity) f.doc_present f.flags f.name f.name_length (privilege_number f.first_privilege) (privilege_number f.second_privilege))

pub record Fits (f : First) : Type 0 where
  pub place_fits : f.place < 4
  pub doc_present_fits : f.doc_present < 2
  pub flags_fits : f.flags < 128
  pub name_fits : f.name ≤ text_limit
  pub name_length_fits : f.name_length ≤ text_limit

-- the word of a span
abbrev pub word_of_span : ℕ → ℕ → ℕ
word_of_span o n = packed 0 (span_row offset_width o n)

-- the word and the bit of a doc comment, and what fits them
abbrev pub doc_span_word : CodeOption DocSpan → ℕ
doc_span_word None = 0
doc_span_word (Some d) = word_of_span d.offset d.size

abbrev pub doc_span_bit : CodeOption DocSpan → ℕ
doc_span_bit None = 0
doc_span_bit (Some d) = 1

abbrev pub DocFits : CodeOption DocSpan → Type 0
DocFits None = Unit {0}
DocFits (Some d) = (d.offset ≤ text_limit) × (d.size ≤ text_limit)

pub record FrontFits (f : FrontParts) : Type 0 where
  pub place_fits : f.place < 4
  pub doc_fits : DocFits f.doc

abbrev pub front_of : FrontParts → Front
front_of f = record { kind = kind_number f.kind; place = f.place; doc = doc_of f.doc; maturity = maturity_number f.maturity }
