-- What the private functions of the readers of items promise.
use Rattle.lexing.specs.answers.{Read}
use Rattle.std.specs.Prelude.{ℕ, ◌+◌, ◌-◌, ◌≤◌, ◌≡◌, List, [], ◌∷◌, length, drop}
use Rattle.lexing.specs.bytes.{ascii}
use Rattle.lexing.specs.reply.{Parser, fail, no_nearer}
use Rattle.lexing.specs.blanks.{Doc}
use Rattle.items.specs.entries.{parse_bitmap_after_doc_maturity, parse_enum_after_doc_maturity}
use Rattle.items.specs.structs.{parse_struct_after_doc_maturity}
use Rattle.items.specs.clusters.{mapped, cluster_after_doc_maturity}
use Rattle.items.specs.endpoints.{endpoint}
use Rattle.items.specs.items.{Item, cluster_item, endpoint_item, enum_item, bitmap_item, struct_item}
use Rattle.items.specs.answers.items.{declaration}
use Rattle.items.specs.answers.{maturity_number, Front, CountsTo}
use Rattle.items.specs.inner.choices.{ChoiceFrom}
use Rattle.items.specs.inner.structs.{StructFrom}
use Rattle.items.specs.answers.items.{unhoisted_item}
use Rattle.items.specs.declared.member_kinds.MemberKind.{MemberKind}
use Rattle.items.specs.declared.member_kinds.MemberKind.TheVariants.{Revision, Bitmap, Enum, Struct, Attribute, Command, Event, Unknown}
use Rattle.items.specs.declared.items.DeclarationKind.{DeclarationKind}
use Rattle.items.specs.declared.items.DeclarationKind.TheVariants.{Cluster, Endpoint, Enum as EnumType, Bitmap as BitmapType, Struct as StructType, Unknown as NoDeclaration}
use Rattle.items.specs.declared.items.DeclarationStart.{DeclarationStart}

-- the words that a cluster can start with
abbrev pub cluster_starts : List (List ℕ)
cluster_starts = ascii "client" ∷ ascii "server" ∷ ascii "cluster" ∷ []

-- the kind of a declaration by that of a member: types are at the top too
abbrev pub type_kind : MemberKind → DeclarationKind
type_kind Revision = NoDeclaration
type_kind Bitmap = BitmapType
type_kind Enum = EnumType
type_kind Struct = StructType
type_kind Attribute = NoDeclaration
type_kind Command = NoDeclaration
type_kind Event = NoDeclaration
type_kind Unknown = NoDeclaration

-- the try of a kind of declaration
unfoldable pub declaration_try : DeclarationKind → Doc → ℕ → Parser Item
declaration_try Cluster d m = mapped (cluster_after_doc_maturity d m) cluster_item
declaration_try Endpoint d m = mapped endpoint endpoint_item
declaration_try EnumType d m = mapped (parse_enum_after_doc_maturity d m) enum_item
declaration_try BitmapType d m = mapped (parse_bitmap_after_doc_maturity d m) bitmap_item
declaration_try StructType d m = mapped (parse_struct_after_doc_maturity d m) struct_item
declaration_try NoDeclaration d m = λ b u. fail b

-- where it goes on: `shared` may be before a type
abbrev pub DeclarationFrom : DeclarationKind → ℕ → ℕ → List ℕ → Type 0
DeclarationFrom Cluster f b u = Unit {0}
DeclarationFrom Endpoint f b u = Unit {0}
DeclarationFrom EnumType f b u = ChoiceFrom f b u
DeclarationFrom BitmapType f b u = ChoiceFrom f b u
DeclarationFrom StructType f b u = StructFrom f b u
DeclarationFrom NoDeclaration f b u = Unit {0}

-- its count, whatever the doc comment and the maturity before it
abbrev pub KindCountTo : DeclarationKind → Read ℕ → ℕ → List ℕ → Type 0
KindCountTo k r b u = CountsTo {I = Front} (λ i. unhoisted_item) (λ i. declaration_try k i.doc i.maturity) r b u

-- the tries of a declaration are that of its kind, after its maturity; the others fail, no further than at the floor
pub record StartTo (r : DeclarationStart) (b : ℕ) (u : List ℕ) : Type 0 where
  pub from : b ≤ r.next
  pub inside : r.next ≤ b + length u
  pub leaves : (d : Doc) → declaration d b u ≡ no_nearer r.others_fail_at (declaration_try r.kind d (maturity_number r.maturity) r.next (drop (r.next - b) u))
  pub goes : DeclarationFrom r.kind r.from r.next (drop (r.next - b) u)
