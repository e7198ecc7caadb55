-- What the readers and writers of structs promise.
use Rattle.std.specs.Prelude.{ℕ, ◌≤◌, ◌<◌, ◌-◌, ◌≡◌, List, [], ◌∷◌, Bool, true, false, Ok}
use Rattle.lexing.specs.bytes.{ascii}
use Rattle.lexing.specs.reply.{fail, Parser, Reply, ret, opt}
use Rattle.lexing.specs.words.{keyword, Word}
use Rattle.lexing.specs.answers.{Answer, got, word_reply, ReadTo, BlankAt, word_between, reply, doc_of, Read, read_answer}
use Rattle.items.specs.structs.{StructType, regular, request, response, shared, StructHead, struct_head, parse_struct_after_doc_maturity, response_code, struct_type_of}
use Rattle.items.specs.records.{struct_records, Record, at, bits, value, documented}
use Rattle.items.specs.answers.{maturity_number, Front, CountsTo}
use Rattle.items.specs.declared.structs.StructKind.{StructKind}
use Rattle.items.specs.declared.structs.StructKind.TheVariants.{Regular, Request, Response, Shared}
use Rattle.items.specs.declared.structs.StructHeadParts.{StructHeadParts}
use Rattle.std.proofs.Math.Option.{Option}
use Rattle.items.specs.declared.structs.StructWord.{StructWord}
use Rattle.items.specs.declared.writing.FrontParts.{FrontParts}

-- where a struct goes on: after `shared` and the blanks that may follow it, or at its start where it is not there
pub data StructFrom (f b : ℕ) (u : List ℕ) : Type 0 where
  after_shared : (c : ℕ) → word_reply (Ok c) b u ≡ keyword (ascii "shared") b u → BlankAt f b u c → StructFrom f b u
  not_shared : f ≡ b → keyword (ascii "shared") b u ≡ fail b → StructFrom f b u

-- the type of a struct by its kind and the code of a response
abbrev pub type_of : StructKind → ℕ → StructType
type_of Regular v = regular
type_of Request v = request
type_of Response v = response v
type_of Shared v = shared

-- a struct up to its fields
-- free: `code`, where `kind` is not `Response`
abbrev pub head_at : ℕ → List ℕ → StructHeadParts → StructHead
head_at b u h = record { head_type = type_of h.kind h.code; head_scoped = h.scoped; head_name = word_between b u h.name h.end }

pub record HeadBetween (b : ℕ) (h : StructHeadParts) (c : ℕ) : Type 0 where
  pub name_from : b ≤ h.name
  pub name_to : h.name ≤ h.end
  pub before : h.end ≤ c
  pub few_flags : h.scoped < 2

abbrev pub StructHeadTo : Read StructHeadParts → ℕ → List ℕ → Type 0
StructHeadTo r b u = ReadTo head_at HeadBetween struct_head r b u

abbrev pub StructCountTo : Read ℕ → ℕ → List ℕ → Type 0
StructCountTo r b u = CountsTo {I = Front} (λ i. struct_records i.place) (λ i. parse_struct_after_doc_maturity i.doc i.maturity) r b u

-- the kind that a word says
abbrev pub kind_by : Bool → StructKind → StructKind
kind_by true k = k
kind_by false k = Regular

-- what a kind reads after the struct's name
unfoldable pub type_by : StructKind → Parser StructType
type_by Regular = ret regular
type_by Request = ret request
type_by Response = response_code
type_by Shared = ret shared

-- the words that may be before a struct
abbrev pub struct_words : List (List ℕ)
struct_words = ascii "request" ∷ ascii "response" ∷ ascii "shared" ∷ []

-- the word before a struct, which m reads, by the kind that it says, and the blanks after it
pub record StructWordTo (m : Parser Word) (r : StructWord) (b : ℕ) (u : List ℕ) : Type 0 where
  pub read : Option Word
  pub end : ℕ
  pub reads : reply (got read end) b u ≡ opt m b u
  pub means : struct_type_of read ≡ type_by r.kind
  pub blanks : BlankAt r.next b u end

-- the type of a struct whose code was read
abbrev pub code_answer : StructKind → Read ℕ → Answer StructType
code_answer k = read_answer (type_of k)

abbrev pub code_reply : StructKind → Read ℕ → ℕ → List ℕ → Reply StructType
code_reply k r b u = reply (code_answer k r) b u

abbrev pub response_reply : Read ℕ → ℕ → List ℕ → Reply StructType
response_reply r b u = code_reply Response r b u

abbrev pub struct_kind_number : StructKind → ℕ
struct_kind_number Regular = 0
struct_kind_number Request = 1
struct_kind_number Response = 2
struct_kind_number Shared = 3

abbrev pub response_number : StructKind → ℕ → ℕ
response_number Regular v = 0
response_number Request v = 0
response_number Response v = v
response_number Shared v = 0

-- the first record of a struct, by offsets
abbrev pub struct_first : FrontParts → StructHeadParts → Record
struct_first f h =
    documented 5 f.place (maturity_number f.maturity) (doc_of f.doc) (bits 2 (struct_kind_number h.kind) ∷ bits 1 h.scoped ∷ []) (at h.name (h.end - h.name)) 0 0
    (value (response_number h.kind h.code) ∷ [])
