-- What a member is by its first word, and which try that selects.
use Rattle.std.specs.Prelude.{ℕ, ◌≤◌, ◌≡◌, Bool, true, false, cond, List, [], ◌∷◌, eqb}
use Rattle.lexing.specs.bytes.{ascii, byte}
use Rattle.lexing.specs.reply.{Reply, ok, fail, stop, Parser}
use Rattle.lexing.specs.blanks.{Doc}
use Rattle.items.specs.entries.{parse_bitmap_after_doc_maturity, parse_enum_after_doc_maturity}
use Rattle.items.specs.structs.{parse_struct_after_doc_maturity}
use Rattle.items.specs.members.{parse_attribute_after_doc_maturity, parse_command_after_doc_maturity, parse_event_after_doc_maturity}
use Rattle.items.specs.clusters.{Member, bitmap, enum, struct, attribute, command, event, mapped, parse_revision}
use Rattle.items.specs.inner.choices.{ChoiceFrom}
use Rattle.items.specs.inner.structs.{StructFrom}
use Rattle.items.specs.declared.member_kinds.MemberKind.{MemberKind}
use Rattle.items.specs.declared.member_kinds.MemberKind.TheVariants.{Revision, Bitmap, Enum, Struct, Attribute, Command, Event, Unknown}
use Rattle.items.specs.declared.member_kinds.MemberStart.{MemberStart}

-- the words that a member can start with, by its kind; `shared` can start a bitmap, an enum and a struct
abbrev pub revision_starts : List (List ℕ)
revision_starts = ascii "revision" ∷ []

abbrev pub bitmap_starts : List (List ℕ)
bitmap_starts = ascii "shared" ∷ ascii "bitmap" ∷ []

abbrev pub enum_starts : List (List ℕ)
enum_starts = ascii "shared" ∷ ascii "enum" ∷ []

abbrev pub struct_starts : List (List ℕ)
struct_starts = ascii "request" ∷ ascii "response" ∷ ascii "fabric_scoped" ∷ ascii "struct" ∷ []

abbrev pub attribute_starts : List (List ℕ)
attribute_starts = ascii "readonly" ∷ ascii "writeonly" ∷ ascii "nosubscribe" ∷ ascii "timedwrite" ∷ ascii "attribute" ∷ []

abbrev pub command_starts : List (List ℕ)
command_starts = ascii "timed" ∷ ascii "fabric" ∷ ascii "command" ∷ []

abbrev pub event_starts : List (List ℕ)
event_starts = ascii "fabric_sensitive" ∷ ascii "info" ∷ ascii "critical" ∷ ascii "debug" ∷ []

-- the kind that the third letter of a word says, where the first one is `r`
abbrev pub third_letter_kind : ℕ → MemberKind
third_letter_kind y = cond (eqb y (byte "a")) Attribute (cond (eqb y (byte "v")) Revision Struct)

-- whether something is read
abbrev pub is_ok : {A : Type 0} → Reply A → Bool
is_ok (ok a c r) = true
is_ok (fail p) = false
is_ok (stop n p) = false

-- the try of a kind of member
unfoldable pub member_try : MemberKind → Doc → ℕ → Parser Member
member_try Revision d m = parse_revision
member_try Bitmap d m = mapped (parse_bitmap_after_doc_maturity d m) bitmap
member_try Enum d m = mapped (parse_enum_after_doc_maturity d m) enum
member_try Struct d m = mapped (parse_struct_after_doc_maturity d m) struct
member_try Attribute d m = mapped (parse_attribute_after_doc_maturity d m) attribute
member_try Command d m = mapped (parse_command_after_doc_maturity d m) command
member_try Event d m = mapped (parse_event_after_doc_maturity d m) event
member_try Unknown d m = λ b u. fail b

-- kinds by number
abbrev pub kind_number : MemberKind → ℕ
kind_number Revision = 0
kind_number Bitmap = 1
kind_number Enum = 2
kind_number Struct = 3
kind_number Attribute = 4
kind_number Command = 5
kind_number Event = 6
kind_number Unknown = 7

abbrev pub same_kind : MemberKind → MemberKind → Bool
same_kind j k = eqb (kind_number j) (kind_number k)

-- where the try of a kind fails that the first word doesn't select: a type's at the floor, another member's at the start
abbrev pub fails_at : (floor start : ℕ) → MemberKind → ℕ
fails_at q b Revision = b
fails_at q b Bitmap = q
fails_at q b Enum = q
fails_at q b Struct = q
fails_at q b Attribute = b
fails_at q b Command = b
fails_at q b Event = b
fails_at q b Unknown = b

-- where the try of a kind goes on: `shared` may be before a type
abbrev pub MemberFrom : MemberKind → ℕ → ℕ → List ℕ → Type 0
MemberFrom Revision f b u = Unit {0}
MemberFrom Bitmap f b u = ChoiceFrom f b u
MemberFrom Enum f b u = ChoiceFrom f b u
MemberFrom Struct f b u = StructFrom f b u
MemberFrom Attribute f b u = Unit {0}
MemberFrom Command f b u = Unit {0}
MemberFrom Event f b u = Unit {0}
MemberFrom Unknown f b u = Unit {0}

-- a first word selects the try of one kind: those of all others fail
pub record KindTo (r : MemberStart) (b : ℕ) (u : List ℕ) : Type 0 where
  pub up : b ≤ r.others_fail_at
  pub others : (k : MemberKind) → same_kind k r.kind ≡ false → (d : Doc) (m : ℕ) → member_try k d m b u ≡ fail (fails_at r.others_fail_at b k)
  pub goes : MemberFrom r.kind r.from b u
