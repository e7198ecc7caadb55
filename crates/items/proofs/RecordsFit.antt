-- Every record of what is read fits: each value its bits, each word 64 bits, and it has as many words as its kind.
use Prim.Native.Nat.{ℕ, zero, suc, ◌+◌, ◌-◌, ◌^◌, ◌≤◌, ◌<◌}
use mathlib.Core.Path.{◌≡◌, refl, sym, ◌∙◌, ap}
use mathlib.Core.Bool.{Bool, true, false, ◌||◌}
use mathlib.Core.Option.{Option, none, some}
use mathlib.Core.List.{List, [], ◌∷◌, ◌++◌, map}
use native.Mathlib.Omega.{arith}
use lib.Dec.{lit<, lit≤, leb, ltb}
use lib.ListN.{length, take, drop, get_or, length-append}
use borrow.Author.Tests.{ltb-true}
use Rattle.lexing.proofs.Tests.{and_right}
use Rattle.lexing.specs.words.{Word, word, offset_of, bytes_of}
use Rattle.lexing.specs.integers.{Signed, signed, largest}
use Rattle.lexing.specs.blanks.{Doc, no_doc, doc_at}
use Rattle.lexing.specs.strings.{Span, span}
use Rattle.lexing.specs.word_sets.{bit}
use Rattle.items.specs.entries.{Annotation, Entry, Choice}
use Rattle.items.specs.structs.{StructField, StructType, regular, request, response, shared, Struct}
use Rattle.items.specs.members.{or_else, Event, Command, Attribute}
use Rattle.items.specs.clusters.{Member, revision, bitmap, enum, struct, attribute, command, event, Cluster}
use Rattle.items.specs.endpoints.{Default, number, signed_number, truth, text, Instance, attribute_instance, command_instance, event_instance, Part, device, binding, instantiation, Endpoint}
use Rattle.items.specs.items.{Item, cluster_item, endpoint_item, enum_item, bitmap_item, struct_item, blank_item}
use Rattle.items.specs.records.{Extent, absent, at, Bits, Further, value, spanned, Record, word_extent, optional_extent, doc_extent, span_extent, doc_bit, flag, plain, documented, annotation_record, entry_record, entry_records, choice_records, field_record, struct_number, struct_records, attribute_records, command_record, event_records, last_revision, member_records, cluster_records, default_number, twos_complement, default_word, instance_record, part_records, endpoint_records, further_counts, known_kind, further_of_kind, item_records}
use Rattle.lexing.specs.buffers.{each}
use Rattle.items.specs.layout.{packed, width, offset, size, Field, kind_field, place_field, maturity_field, doc_field, flags_field, offset_field, length_field, first_privilege_field, second_privilege_field, no_field, record_value, Cell, filled, Layout, layout, first_words, span_word, further_word, record_words, words_of_kind, catalogue_words, text_limit}
use Rattle.items.specs.stored.{field_number, same_field, has_field}
use Rattle.lexing.proofs.Truth.{All, Maybe, InRange, WordTrue, SpanTrue, DocTrue}
use Rattle.items.proofs.Truth.{AnnotationTrue, true_annotation, EntryTrue, true_entry, ChoiceTrue, true_choice, true_field, StructFieldTrue, true_struct_field, StructTrue, true_struct, EventTrue, true_event, CommandTrue, true_command, true_privileges, AttributeTrue, true_attribute, MemberTrue, ClusterTrue, true_cluster, true_device, DefaultTrue, true_attribute_instance, InstanceTrue, true_instantiation, PartTrue, EndpointTrue, true_endpoint, ItemTrue}
use Rattle.items.proofs.Packing.{Fit, packed_less, from_top_less}

-- lists
pub all_append : {A : Type 0} (Q : A → Type 0) (l k : List A) → All Q l → All Q k → All Q (l ++ k)
all_append Q [] k h i = i
all_append Q (a ∷ l) k h i = (h.0, all_append Q l k h.1 i)

pub all_map : {A B : Type 0} (Q : A → Type 0) (R : B → Type 0) (f : A → B) → ((a : A) → Q a → R (f a)) → (l : List A) → All Q l → All R (map f l)
all_map Q R f v [] h = tt
all_map Q R f v (a ∷ l) h = (v a h.0, all_map Q R f v l h.1)

pub all_each : {A B : Type 0} (Q : A → Type 0) (R : B → Type 0) (f : A → List B) → ((a : A) → Q a → All R (f a)) → (l : List A) → All Q l → All R (each f l)
unfolding each
all_each Q R f v [] h = tt
all_each Q R f v (a ∷ l) h = all_append R (f a) (each f l) (v a h.0) (all_each Q R f v l h.1)

pub all_at : {A : Type 0} (Q : A → Type 0) (d : A) (l : List A) (i : ℕ) → All Q l → i < length l → Q (get_or l i d)
all_at Q d [] i h k = absurd (omega arith)
all_at Q d (a ∷ l) zero h k = h.0
all_at Q d (a ∷ l) (suc i) h k = all_at Q d l i h.1 (omega arith)

-- before offset n
abbrev pub ExtentIn : ℕ → Extent → Type 0
ExtentIn n absent = Unit {0}
ExtentIn n (at o k) = o + k ≤ n

abbrev pub FurtherIn : ℕ → Further → Type 0
FurtherIn n (value v) = v < 2 ^ 64
FurtherIn n (spanned e) = ExtentIn n e

-- a record of a text that ends at offset n
pub record RecordFits (n : ℕ) (r : Record) : Type 0 where
  pub kind_known : known_kind r.kind ≡ true
  pub place_fits : r.place < 2 ^ 2
  pub maturity_fits : r.maturity < 2 ^ 2
  pub doc_fits : r.doc_present < 2 ^ 1
  pub flags_fit : Fit r.flags
  pub flags_width : width r.flags ≤ 7
  pub name_inside : ExtentIn n r.name
  pub first_fits : r.first_privilege < 2 ^ 2
  pub second_fits : r.second_privilege < 2 ^ 2
  pub further_fit : All (FurtherIn n) r.further
  pub further_count : length r.further ≡ further_of_kind r.kind

bit_fits : (b : Bool) → bit b < 2 ^ 1
unfolding bit
bit_fits true = lit< tt
bit_fits false = lit< tt

doc_bit_fits : (d : Doc) → doc_bit d < 2 ^ 1
unfolding doc_bit
doc_bit_fits no_doc = lit< tt
doc_bit_fits (doc_at o n) = lit< tt

struct_number_fits : (y : StructType) → struct_number y < 2 ^ 2
unfolding struct_number
struct_number_fits regular = lit< tt
struct_number_fits request = lit< tt
struct_number_fits (response c) = lit< tt
struct_number_fits shared = lit< tt

default_number_fits : (o : Option Default) → default_number o < 2 ^ 3
unfolding default_number
default_number_fits none = lit< tt
default_number_fits (some (number n)) = lit< tt
default_number_fits (some (signed_number z)) = lit< tt
default_number_fits (some (truth z)) = lit< tt
default_number_fits (some (text x)) = lit< tt

twos_complement_fits : (z : Signed) → InRange z → twos_complement z < 2 ^ 64
unfolding twos_complement largest
twos_complement_fits (signed false v) h = omega arith
twos_complement_fits (signed true zero) h = lit< tt
twos_complement_fits (signed true (suc v)) h = omega arith

maximum_fits : (o : Option ℕ) → Maybe (λ n. n < 2 ^ 64) o → or_else 0 o < 2 ^ 64
unfolding or_else
maximum_fits none h = lit< tt
maximum_fits (some n) h = h

plain_fits : {n : ℕ} (k m : ℕ) (f : List Bits) (e : Extent) (l : List Further) → known_kind k ≡ true → m < 2 ^ 2 → Fit f → width f ≤ 7 → ExtentIn n e → All (FurtherIn n) l → length l ≡ further_of_kind k → RecordFits n (plain k m f e l)
unfolding plain
plain_fits k m f e l hk hm hf hw he hl hc =
    record { kind_known = hk; place_fits = lit< tt; maturity_fits = hm; doc_fits = lit< tt; flags_fit = hf; flags_width = hw; name_inside = he; first_fits = lit< tt; second_fits = lit< tt; further_fit = hl; further_count = hc }

documented_fits : {n : ℕ} (k p m : ℕ) (d : Doc) (f : List Bits) (e : Extent) (x y : ℕ) (l : List Further) → known_kind k ≡ true → p < 2 ^ 2 → m < 2 ^ 2 → ExtentIn n (doc_extent d) → Fit f → width f ≤ 7 → ExtentIn n e → x < 2 ^ 2 → y < 2 ^ 2 → All (FurtherIn n) l → suc (length l) ≡ further_of_kind k → RecordFits n (documented k p m d f e x y l)
unfolding documented
documented_fits k p m d f e x y l hk hp hm hd hf hw he hx hy hl hc =
    record { kind_known = hk; place_fits = hp; maturity_fits = hm; doc_fits = doc_bit_fits d; flags_fit = hf; flags_width = hw; name_inside = he; first_fits = hx; second_fits = hy; further_fit = (hd, hl); further_count = hc }

module _ (s : ℕ) (t : List ℕ) (end : ℕ) where
  abbrev Fits : Record → Type 0
  Fits r = RecordFits end r

  abbrev Inside : Extent → Type 0
  Inside e = ExtentIn end e

  word_in : (w : Word) → WordTrue s t end w → Inside (word_extent w)
  unfolding word_extent offset_of bytes_of
  word_in (word o w) h = h.inside

  optional_in : (o : Option Word) → Maybe (WordTrue s t end) o → Inside (optional_extent o)
  unfolding optional_extent
  optional_in none h = tt
  optional_in (some w) h = word_in w h

  doc_in : (d : Doc) → DocTrue s t end d → Inside (doc_extent d)
  unfolding doc_extent
  doc_in no_doc h = tt
  doc_in (doc_at o n) h = h.1

  default_in : (o : Option Default) → Maybe (DefaultTrue s t end) o → FurtherIn end (default_word o)
  unfolding default_word
  default_in none h = lit< tt
  default_in (some (number n)) h = h
  default_in (some (signed_number z)) h = twos_complement_fits z h
  default_in (some (truth z)) h = let k = bit_fits z in omega (arith, k)
  default_in (some (text (span o n))) h = h.1

  span_in : (x : Span) → SpanTrue s t end x → Inside (span_extent x)
  unfolding span_extent
  span_in (span o n) h = h.1

  annotation_fits : (a : Annotation) → AnnotationTrue s t end a → Fits (annotation_record a)
  unfolding annotation_record width further_of_kind known_kind
  annotation_fits a (true_annotation k v) = plain_fits _ _ _ _ _ refl (lit< tt) tt (lit≤ tt) (word_in a.key k) (span_in a.value v, tt) refl

  entry_fits : (e : Entry) → EntryTrue s t end e → All Fits (entry_records e)
  unfolding entry_records entry_record width further_of_kind known_kind
  entry_fits e (true_entry m n c l) =
      (plain_fits _ _ _ _ _ refl m tt (lit≤ tt) (word_in e.name n) (c, tt) refl, all_map (AnnotationTrue s t end) Fits annotation_record annotation_fits e.annotations l)

  choice_fits : (k : ℕ) → known_kind k ≡ true → 2 ≡ further_of_kind k → (p : ℕ) → p < 2 ^ 2 → (c : Choice) → ChoiceTrue s t end c → All Fits (choice_records k p c)
  unfolding choice_records width flag
  choice_fits k hk hc p hp c (true_choice d m n b e) =
      (documented_fits _ _ _ _ _ _ _ _ _ hk hp m (doc_in c.doc d) (bit_fits _, tt) (lit≤ tt) (word_in c.name n) (lit< tt) (lit< tt) (word_in c.base b, tt) hc, all_each (EntryTrue s t end) Fits entry_records entry_fits c.entries e)

  field_fits : (f : StructField) → StructFieldTrue s t end f → Fits (field_record f)
  unfolding field_record width flag further_of_kind known_kind
  field_fits f (true_struct_field m q (true_field y x n c)) =
      plain_fits _ _ _ _ _ refl m (bit_fits _, (bit_fits _, (q, tt))) (lit≤ tt) (word_in f.field.name n) (word_in f.field.data_type y, (c, (maximum_fits f.field.maximum x, tt))) refl

  fields_fit : (l : List StructField) → All (StructFieldTrue s t end) l → All Fits (map field_record l)
  fields_fit l h = all_map (StructFieldTrue s t end) Fits field_record field_fits l h

  struct_fits : (p : ℕ) → p < 2 ^ 2 → (x : Struct) → StructTrue s t end x → All Fits (struct_records p x)
  unfolding struct_records width further_of_kind known_kind
  struct_fits p hp x (true_struct d m y q n f) =
      (documented_fits _ _ _ _ _ _ _ _ _ refl hp m (doc_in x.doc d) (struct_number_fits _, (q, tt)) (lit≤ tt) (word_in x.name n) (lit< tt) (lit< tt) (y, tt) refl, fields_fit x.fields f)

  attribute_fits : (a : Attribute) → AttributeTrue s t end a → All Fits (attribute_records a)
  unfolding attribute_records width further_of_kind known_kind
  attribute_fits a (true_attribute d m q (true_privileges r w) f) =
      (documented_fits _ _ _ _ _ _ _ _ _ refl (lit< tt) m (doc_in a.doc d) (q, tt) (lit≤ tt) tt r w tt refl, (field_fits a.field f, tt))

  command_fits : (c : Command) → CommandTrue s t end c → Fits (command_record c)
  unfolding command_record width flag further_of_kind known_kind
  command_fits c (true_command d m q a n i o z) =
      documented_fits _ _ _ _ _ _ _ _ _ refl (lit< tt) m (doc_in c.doc d) (q, (bit_fits _, tt)) (lit≤ tt) (word_in c.name n) a (lit< tt) (optional_in c.input i, (word_in c.output o, (z, tt))) refl

  event_fits : (e : Event) → EventTrue s t end e → All Fits (event_records e)
  unfolding event_records width further_of_kind known_kind
  event_fits e (true_event d m q y a n c f) =
      (documented_fits _ _ _ _ _ _ _ _ _ refl (lit< tt) m (doc_in e.doc d) (y, (q, tt)) (lit≤ tt) (word_in e.name n) a (lit< tt) (c, tt) refl, fields_fit e.fields f)

  instance_fits : (i : Instance) → InstanceTrue s t end i → Fits (instance_record i)
  unfolding instance_record width further_of_kind known_kind
  instance_fits (attribute_instance a) (true_attribute_instance y n o) = plain_fits _ _ _ _ _ refl (lit< tt) (y, (default_number_fits _, tt)) (lit≤ tt) (word_in a.name n) (default_in a.default o, tt) refl
  instance_fits (command_instance n) h = plain_fits _ _ _ _ _ refl (lit< tt) tt (lit≤ tt) (word_in n h) tt refl
  instance_fits (event_instance n) h = plain_fits _ _ _ _ _ refl (lit< tt) tt (lit≤ tt) (word_in n h) tt refl

  part_fits : (p : Part) → PartTrue s t end p → All Fits (part_records p)
  unfolding part_records width further_of_kind known_kind
  part_fits (device x) (true_device n c v) = (plain_fits _ _ _ _ _ refl (lit< tt) tt (lit≤ tt) (word_in x.name n) (c, (v, tt)) refl, tt)
  part_fits (binding n) h = (plain_fits _ _ _ _ _ refl (lit< tt) tt (lit≤ tt) (word_in n h) tt refl, tt)
  part_fits (instantiation i) (true_instantiation n l) =
      (plain_fits _ _ _ _ _ refl (lit< tt) tt (lit≤ tt) (word_in i.name n) tt refl, all_map (InstanceTrue s t end) Fits instance_record instance_fits i.instances l)

  endpoint_fits : (e : Endpoint) → EndpointTrue s t end e → All Fits (endpoint_records e)
  unfolding endpoint_records width further_of_kind known_kind
  endpoint_fits e (true_endpoint n l) = (plain_fits _ _ _ _ _ refl (lit< tt) tt (lit≤ tt) tt (n, tt) refl, all_each (PartTrue s t end) Fits part_records part_fits e.parts l)

  revision_fits : (z : ℕ) (l : List Member) → z < 2 ^ 64 → All (MemberTrue s t end) l → last_revision z l < 2 ^ 64
  unfolding last_revision
  revision_fits z [] hz h = hz
  revision_fits z (revision n ∷ l) hz h = revision_fits n l h.0 h.1
  revision_fits z (bitmap c ∷ l) hz h = revision_fits z l hz h.1
  revision_fits z (enum c ∷ l) hz h = revision_fits z l hz h.1
  revision_fits z (struct x ∷ l) hz h = revision_fits z l hz h.1
  revision_fits z (attribute a ∷ l) hz h = revision_fits z l hz h.1
  revision_fits z (command c ∷ l) hz h = revision_fits z l hz h.1
  revision_fits z (event e ∷ l) hz h = revision_fits z l hz h.1

  module _ (place : Member → ℕ) (small : (m : Member) → place m < 2 ^ 2) where
    member_fits : (m : Member) → MemberTrue s t end m → All Fits (member_records place m)
    unfolding member_records further_of_kind known_kind
    member_fits (revision n) h = tt
    member_fits (bitmap c) h = choice_fits 3 refl refl _ (small _) c h
    member_fits (enum c) h = choice_fits 2 refl refl _ (small _) c h
    member_fits (struct x) h = struct_fits _ (small _) x h
    member_fits (attribute a) h = attribute_fits a h
    member_fits (command c) h = (command_fits c h, tt)
    member_fits (event e) h = event_fits e h

    cluster_fits : (c : Cluster) → ClusterTrue s t end c → All Fits (cluster_records place c)
    unfolding cluster_records width further_of_kind known_kind
    cluster_fits c (true_cluster d m n z l) =
        (documented_fits _ _ _ _ _ _ _ _ _ refl (lit< tt) m (doc_in c.doc d) tt (lit≤ tt) (word_in c.name n) (lit< tt) (lit< tt) (z, (revision_fits 0 c.members (lit< tt) l, tt)) refl, all_each (MemberTrue s t end) Fits (member_records place) member_fits c.members l)

    pub item_fits : (top : ℕ) → top < 2 ^ 2 → (i : Item) → ItemTrue s t end i → All Fits (item_records top place i)
    unfolding item_records further_of_kind known_kind
    item_fits top h (cluster_item c) k = cluster_fits c k
    item_fits top h (endpoint_item e) k = endpoint_fits e k
    item_fits top h (enum_item c) k = choice_fits 2 refl refl top h c k
    item_fits top h (bitmap_item c) k = choice_fits 3 refl refl top h c k
    item_fits top h (struct_item x) k = struct_fits top h x k
    item_fits top h blank_item k = tt

  -- a name's extent in the text
  pub name_bytes : (w : Word) → WordTrue s t end w → take (size (word_extent w)) (drop (offset (word_extent w) - s) t) ≡ bytes_of w
  unfolding word_extent size offset offset_of bytes_of
  name_bytes (word o w) h = h.same

-- the same of a whole text
pub name_whole : (t : List ℕ) (end : ℕ) (w : Word) → WordTrue 0 t end w → take (size (word_extent w)) (drop (offset (word_extent w)) t) ≡ bytes_of w
name_whole t end w h =
    let z : offset (word_extent w) - 0 ≡ offset (word_extent w) = omega arith in
    rw z at (name_bytes 0 t end w h)

-- a word: its values fit and fill 64 bits
pub record WordFits (l : List Bits) : Type 0 where
  pub fit : Fit l
  pub full : width l ≡ 64

unfoldable pub somewhere : Field → List (List Cell) → Bool
somewhere f [] = false
somewhere f (row ∷ rows) = has_field f row || somewhere f rows

-- a layout that holds the records of a text that ends at offset n
pub record LayoutFits (L : Layout) (n : ℕ) : Type 0 where
  pub first_fit : (r : Record) → RecordFits n r → All WordFits (first_words L r)
  pub span_fits : (e : Extent) → ExtentIn n e → WordFits (span_word L e)
  -- every field is in a first word
  pub all_fields : (f : Field) → same_field f no_field ≡ false → somewhere f L.head ≡ true

offset_in : {n : ℕ} (e : Extent) → ExtentIn n e → offset e ≤ n
unfolding offset
offset_in absent h = omega arith
offset_in (at o k) h = omega arith

size_in : {n : ℕ} (e : Extent) → ExtentIn n e → size e ≤ n
unfolding size
size_in absent h = omega arith
size_in (at o k) h = omega arith

-- a known kind has eight bits
kind_fits : {k : ℕ} → known_kind k ≡ true → k < 2 ^ 8
unfolding known_kind
kind_fits {k} h = let z : k < length further_counts = ltb-true k _ (and_right (leb 1 k) (ltb k (length further_counts)) h) in omega (arith, z)

all_there : (f : Field) → same_field f no_field ≡ false → somewhere f layout.head ≡ true
unfolding layout somewhere has_field same_field field_number
all_there kind_field h = refl
all_there place_field h = refl
all_there maturity_field h = refl
all_there doc_field h = refl
all_there flags_field h = refl
all_there offset_field h = refl
all_there length_field h = refl
all_there first_privilege_field h = refl
all_there second_privilege_field h = refl
all_there no_field h = sym h

pub layout_fits : (n : ℕ) → n ≤ text_limit → LayoutFits layout n
unfolding layout width
layout_fits n h =
    record {
      first_fit = λ r f. (record { fit = (kind_fits f.kind_known, (f.place_fits, (f.maturity_fits, (f.doc_fits, (from_top_less 7 r.flags f.flags_fit f.flags_width, (small (offset_in r.name f.name_inside), (small (size_in r.name f.name_inside), (f.first_fits, (f.second_fits, tt))))))))); full = refl }, tt);
      span_fits = λ e f. record { fit = (small (offset_in e f), (small (size_in e f), (lit< tt, tt))); full = refl };
      all_fields = all_there;
    }
  where
    small : {o : ℕ} → o ≤ n → o < 2 ^ 20
    small k = omega (arith, h, k)

pub word_less : (l : List Bits) → WordFits l → packed 0 l < 2 ^ 64
word_less l h = rw h.full at (packed_less l h.fit)

abbrev pub Word64 : ℕ → Type 0
Word64 w = w < 2 ^ 64

further_less : {L : Layout} {n : ℕ} → LayoutFits L n → (x : Further) → FurtherIn n x → Word64 (further_word L x)
unfolding further_word
further_less f (value v) h = h
further_less {L} f (spanned e) h = word_less (span_word L e) (f.span_fits e h)

-- every word of a record that fits is below 2^64
pub words_fit : {L : Layout} {n : ℕ} → LayoutFits L n → (r : Record) → RecordFits n r → All Word64 (record_words L r)
unfolding record_words
words_fit {L} {n} f r h =
    all_append Word64 (map (packed 0) (first_words L r)) (map (further_word L) r.further) (all_map WordFits Word64 (packed 0) word_less (first_words L r) (f.first_fit r h))
    (all_map (FurtherIn n) Word64 (further_word L) (further_less f) r.further h.further_fit)

pub catalogue_fits : {L : Layout} {n : ℕ} → LayoutFits L n → (l : List Record) → All (RecordFits n) l → All Word64 (catalogue_words L l)
unfolding catalogue_words
catalogue_fits {L} {n} f l h = all_each (RecordFits n) Word64 (record_words L) (words_fit f) l h

-- as many words as its kind has
pub length_map : {A B : Type 0} (f : A → B) (l : List A) → length (map f l) ≡ length l
length_map f [] = refl
length_map f (a ∷ l) = ap suc (length_map f l)

pub words_count : {n : ℕ} (L : Layout) (r : Record) → RecordFits n r → length (record_words L r) ≡ words_of_kind L r.kind
unfolding record_words words_of_kind
words_count L r h =
    length-append (map (packed 0) (first_words L r)) (map (further_word L) r.further)
    ∙ rw (length_map (packed 0) (first_words L r), length_map (filled (record_value r)) L.head, length_map (further_word L) r.further, h.further_count) refl
