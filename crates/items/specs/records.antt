-- Records: what each declaration hands out, row by row of document 01's table, and document 02's.
use Rattle.std.specs.Prelude.{ℕ, zero, suc, ◌+◌, ◌-◌, ◌^◌, Bool, true, false, ◌&&◌, List, [], ◌∷◌, map, leb, ltb, length, get_or}
use Rattle.std.proofs.Math.Option.{Option, none, some}
use Rattle.lexing.specs.buffers.{each}
use Rattle.lexing.specs.words.{Word, word}
use Rattle.lexing.specs.integers.{Signed, signed}
use Rattle.lexing.specs.blanks.{Doc, no_doc, doc_at}
use Rattle.lexing.specs.strings.{Span, span}
use Rattle.lexing.specs.word_sets.{bit}
use Rattle.items.specs.entries.{present, Annotation, Entry, Choice}
use Rattle.items.specs.structs.{StructField, StructType, regular, request, response, shared, Struct}
use Rattle.items.specs.members.{or_else, Event, Command, Attribute}
use Rattle.items.specs.clusters.{Member, revision, bitmap, enum, struct, attribute, command, event, Cluster}
use Rattle.items.specs.endpoints.{Default, number, signed_number, truth, text, Instance, attribute_instance, command_instance, event_instance, Part, device, binding, instantiation, Endpoint}
use Rattle.items.specs.items.{Item, cluster_item, endpoint_item, enum_item, bitmap_item, struct_item, blank_item}

-- a part of the text by its offset and length, or none
pub data Extent : Type 0 where
  absent : Extent
  at : ℕ → ℕ → Extent

-- a value in so many bits
pub data Bits : Type 0 where
  bits : ℕ → ℕ → Bits

-- a further word: a number, or a span
pub data Further : Type 0 where
  value : ℕ → Further
  spanned : Extent → Further

-- The kinds of records: document 01's, and those of document 02's requests.

abbrev pub cluster_kind : ℕ
cluster_kind = 1

abbrev pub enum_kind : ℕ
enum_kind = 2

abbrev pub bitmap_kind : ℕ
bitmap_kind = 3

abbrev pub entry_kind : ℕ
entry_kind = 4

abbrev pub struct_kind : ℕ
struct_kind = 5

abbrev pub field_kind : ℕ
field_kind = 6

abbrev pub attribute_kind : ℕ
attribute_kind = 7

abbrev pub command_kind : ℕ
command_kind = 8

abbrev pub event_kind : ℕ
event_kind = 9

abbrev pub endpoint_kind : ℕ
endpoint_kind = 10

abbrev pub device_type_kind : ℕ
device_type_kind = 11

abbrev pub binding_kind : ℕ
binding_kind = 12

abbrev pub instantiation_kind : ℕ
instantiation_kind = 13

abbrev pub attribute_instance_kind : ℕ
attribute_instance_kind = 14

abbrev pub command_instance_kind : ℕ
command_instance_kind = 15

abbrev pub event_instance_kind : ℕ
event_instance_kind = 16

abbrev pub annotation_kind : ℕ
annotation_kind = 17

-- how many further words a record of a kind has, in the order of the kinds; 0 is none
abbrev pub further_counts : List ℕ
further_counts = 0 ∷ 3 ∷ 2 ∷ 2 ∷ 1 ∷ 2 ∷ 3 ∷ 1 ∷ 4 ∷ 2 ∷ 1 ∷ 2 ∷ 0 ∷ 0 ∷ 1 ∷ 0 ∷ 0 ∷ 1 ∷ []

unfoldable pub further_of_kind : ℕ → ℕ
further_of_kind k = get_or further_counts k 0

-- 1 to the last kind
unfoldable pub known_kind : ℕ → Bool
known_kind k = leb 1 k && ltb k (length further_counts)

pub record Record : Type 0 where
  pub kind : ℕ
  -- document 01's place: 0 in its parent, 1 global, 2 dropped
  pub place : ℕ
  pub maturity : ℕ
  pub doc_present : ℕ
  -- from the top
  pub flags : List Bits
  pub name : Extent
  pub first_privilege : ℕ
  pub second_privilege : ℕ
  pub further : List Further

-- Moving: all name and span offsets that are present, and nothing else.

unfoldable pub moved_extent : ℕ → Extent → Extent
moved_extent d absent = absent
moved_extent d (at o n) = at (d + o) n

unfoldable pub moved_further : ℕ → Further → Further
moved_further d (value n) = value n
moved_further d (spanned e) = spanned (moved_extent d e)

unfoldable pub moved : ℕ → Record → Record
moved d r = record {
  kind = r.kind;
  place = r.place;
  maturity = r.maturity;
  doc_present = r.doc_present;
  flags = r.flags;
  name = moved_extent d r.name;
  first_privilege = r.first_privilege;
  second_privilege = r.second_privilege;
  further = map (moved_further d) r.further;
}

-- Extents of what was read.

unfoldable pub word_extent : Word → Extent
word_extent (word o w) = at o (length w)

unfoldable pub optional_extent : Option Word → Extent
optional_extent none = absent
optional_extent (some w) = word_extent w

unfoldable pub doc_extent : Doc → Extent
doc_extent no_doc = absent
doc_extent (doc_at o n) = at o n

unfoldable pub span_extent : Span → Extent
span_extent (span o n) = at o n

unfoldable pub doc_bit : Doc → ℕ
doc_bit no_doc = 0
doc_bit (doc_at o n) = 1

unfoldable pub flag : Bool → Bits
flag b = bits 1 (bit b)

-- a record without doc comment and privileges, in its parent
unfoldable pub plain : ℕ → ℕ → List Bits → Extent → List Further → Record
plain k m f n l = record { kind = k; place = 0; maturity = m; doc_present = 0; flags = f; name = n; first_privilege = 0; second_privilege = 0; further = l }

-- a record with a doc comment, at a place and with privileges; its first further word is the doc comment's span
unfoldable pub documented : ℕ → ℕ → ℕ → Doc → List Bits → Extent → ℕ → ℕ → List Further → Record
documented k p m d f n x y l = record { kind = k; place = p; maturity = m; doc_present = doc_bit d; flags = f; name = n; first_privilege = x; second_privilege = y; further = spanned (doc_extent d) ∷ l }

-- annotation: its key as name, and its raw value
unfoldable pub annotation_record : Annotation → Record
annotation_record a = plain annotation_kind 0 [] (word_extent a.key) (spanned (span_extent a.value) ∷ [])

-- enum, bitmap, entry with its annotations after it
unfoldable pub entry_record : Entry → Record
entry_record e = plain entry_kind e.maturity [] (word_extent e.name) (value e.code ∷ [])

unfoldable pub entry_records : Entry → List Record
entry_records e = entry_record e ∷ map annotation_record e.annotations

unfoldable pub choice_records : (kind place : ℕ) → Choice → List Record
choice_records k p c = documented k p c.maturity c.doc (flag c.shared ∷ []) (word_extent c.name) 0 0 (spanned (word_extent c.base) ∷ []) ∷ each entry_records c.entries

-- struct: regular, request, response, shared = 0 to 3; field
unfoldable pub field_record : StructField → Record
field_record f =
    plain field_kind f.maturity (flag f.field.list ∷ flag (present f.field.maximum) ∷ bits 3 f.flags ∷ []) (word_extent f.field.name)
    (spanned (word_extent f.field.data_type) ∷ value f.field.code ∷ value (or_else 0 f.field.maximum) ∷ [])

unfoldable pub struct_number : StructType → ℕ
struct_number regular = 0
struct_number request = 1
struct_number (response c) = 2
struct_number shared = 3

unfoldable pub response_of : StructType → ℕ
response_of regular = 0
response_of request = 0
response_of (response c) = c
response_of shared = 0

unfoldable pub struct_records : (place : ℕ) → Struct → List Record
struct_records p s = documented struct_kind p s.maturity s.doc (bits 2 (struct_number s.struct_type) ∷ bits 1 s.fabric_scoped ∷ []) (word_extent s.name) 0 0 (value (response_of s.struct_type) ∷ []) ∷ map field_record s.fields

-- attribute, and its field
unfoldable pub attribute_records : Attribute → List Record
attribute_records a = documented attribute_kind 0 a.maturity a.doc (bits 4 a.flags ∷ []) absent a.privileges.read a.privileges.write [] ∷ field_record a.field ∷ []

-- command: the first privilege is invoke's
unfoldable pub command_record : Command → Record
command_record c =
    documented command_kind 0 c.maturity c.doc (bits 2 c.flags ∷ flag (present c.input) ∷ []) (word_extent c.name) c.access 0
    (spanned (optional_extent c.input) ∷ spanned (word_extent c.output) ∷ value c.code ∷ [])

-- event: the first privilege is read's
unfoldable pub event_records : Event → List Record
event_records e = documented event_kind 0 e.maturity e.doc (bits 2 e.priority ∷ bits 1 e.fabric_sensitive ∷ []) (word_extent e.name) e.access 0 (value e.code ∷ []) ∷ map field_record e.fields

-- cluster; the last revision wins, with none it is 0. place gives a type's place.
unfoldable pub last_revision : ℕ → List Member → ℕ
last_revision z [] = z
last_revision z (revision n ∷ ms) = last_revision n ms
last_revision z (bitmap c ∷ ms) = last_revision z ms
last_revision z (enum c ∷ ms) = last_revision z ms
last_revision z (struct s ∷ ms) = last_revision z ms
last_revision z (attribute a ∷ ms) = last_revision z ms
last_revision z (command c ∷ ms) = last_revision z ms
last_revision z (event e ∷ ms) = last_revision z ms

unfoldable pub member_records : (place : Member → ℕ) → Member → List Record
member_records place (revision n) = []
member_records place (bitmap c) = choice_records bitmap_kind (place (bitmap c)) c
member_records place (enum c) = choice_records enum_kind (place (enum c)) c
member_records place (struct s) = struct_records (place (struct s)) s
member_records place (attribute a) = attribute_records a
member_records place (command c) = command_record c ∷ []
member_records place (event e) = event_records e

unfoldable pub cluster_records : (place : Member → ℕ) → Cluster → List Record
cluster_records place c = documented cluster_kind 0 c.maturity c.doc [] (word_extent c.name) 0 0 (value c.code ∷ value (last_revision 0 c.members) ∷ []) ∷ each (member_records place) c.members

-- attribute instance: a default is none, number, signed, truth, string = 0 to 4; command instance, event instance
unfoldable pub default_number : Option Default → ℕ
default_number none = 0
default_number (some (number n)) = 1
default_number (some (signed_number z)) = 2
default_number (some (truth t)) = 3
default_number (some (text s)) = 4

-- in two's complement
unfoldable pub twos_complement : Signed → ℕ
twos_complement (signed false v) = v
twos_complement (signed true zero) = 0
twos_complement (signed true (suc v)) = 2 ^ 64 - suc v

unfoldable pub default_word : Option Default → Further
default_word none = value 0
default_word (some (number n)) = value n
default_word (some (signed_number z)) = value (twos_complement z)
default_word (some (truth t)) = value (bit t)
default_word (some (text (span o n))) = spanned (at o n)

unfoldable pub instance_record : Instance → Record
instance_record (attribute_instance a) = plain attribute_instance_kind 0 (bits 2 a.handling ∷ bits 3 (default_number a.default) ∷ []) (word_extent a.name) (default_word a.default ∷ [])
instance_record (command_instance n) = plain command_instance_kind 0 [] (word_extent n) []
instance_record (event_instance n) = plain event_instance_kind 0 [] (word_extent n) []

-- endpoint, device type, binding, instantiation
unfoldable pub part_records : Part → List Record
part_records (device t) = plain device_type_kind 0 [] (word_extent t.name) (value t.code ∷ value t.version ∷ []) ∷ []
part_records (binding n) = plain binding_kind 0 [] (word_extent n) [] ∷ []
part_records (instantiation i) = plain instantiation_kind 0 [] (word_extent i.name) [] ∷ map instance_record i.instances

unfoldable pub endpoint_records : Endpoint → List Record
endpoint_records e = plain endpoint_kind 0 [] absent (value e.id ∷ []) ∷ each part_records e.parts

-- an item's records; top is the place of a type at the top, place that of a type in a cluster
unfoldable pub item_records : (top : ℕ) → (place : Member → ℕ) → Item → List Record
item_records top place (cluster_item c) = cluster_records place c
item_records top place (endpoint_item e) = endpoint_records e
item_records top place (enum_item c) = choice_records enum_kind top c
item_records top place (bitmap_item c) = choice_records bitmap_kind top c
item_records top place (struct_item s) = struct_records top s
item_records top place blank_item = []
