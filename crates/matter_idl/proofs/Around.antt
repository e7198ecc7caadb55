-- What is true of a part of a text is true of the text: names are the same bytes, and spans lie inside.
use Prim.Native.Nat.{ℕ, ◌+◌, ◌≤◌}
use mathlib.Core.Path.{◌≡◌, sym, ◌∙◌, ap, subst}
use mathlib.Core.Option.{Option, none, some}
use mathlib.Core.List.{List, [], ◌∷◌, ◌++◌}
use native.Mathlib.Omega.{arith}
use lib.ListN.{length, take, drop, take-append-drop}
use lib.Seq.{length-take-le, take-length}
use Rattle.lexing.specs.words.{Word}
use Rattle.lexing.specs.blanks.{Doc, no_doc, doc_at}
use Rattle.lexing.specs.strings.{Span, span}
use Rattle.items.specs.entries.{Annotation, Entry, Choice}
use Rattle.items.specs.structs.{Field, StructField, Struct}
use Rattle.items.specs.members.{Event, Command, Attribute, Privileges}
use Rattle.items.specs.clusters.{Member, revision, bitmap, enum, struct, attribute, command, event}
use Rattle.items.specs.endpoints.{DeviceType, Default, number, signed_number, truth, text, AttributeInstance, Instance, attribute_instance, command_instance, event_instance, Instantiation, Part, device, binding, instantiation}
use Rattle.items.specs.items.{Item, cluster_item, endpoint_item, enum_item, bitmap_item, struct_item, blank_item}
use Rattle.lexing.proofs.Truth.{All, Maybe, WordTrue, SpanTrue, DocTrue, word_around}
use Rattle.items.proofs.Truth.{AnnotationTrue, true_annotation, EntryTrue, true_entry, ChoiceTrue, true_choice, FieldTrue, true_field, StructFieldTrue, true_struct_field, StructTrue, true_struct, EventTrue, true_event, CommandTrue, true_command, PrivilegesTrue, true_privileges, AttributeTrue, true_attribute, MemberTrue, true_cluster, DeviceTrue, true_device, DefaultTrue, AttributeInstanceTrue, true_attribute_instance, InstanceTrue, InstantiationTrue, true_instantiation, PartTrue, true_endpoint, ItemTrue}
use Rattle.matter_idl.specs.inner.reading.{PartOf}

-- where Q holds of every element and implies R
all_as : {A : Type 0} (Q R : A → Type 0) → ((a : A) → Q a → R a) → (l : List A) → All Q l → All R l
all_as Q R f [] h = tt
all_as Q R f (a ∷ l) h = (f a h.0, all_as Q R f l h.1)

maybe_as : {A : Type 0} (Q R : A → Type 0) → ((a : A) → Q a → R a) → (o : Option A) → Maybe Q o → Maybe R o
maybe_as Q R f none h = tt
maybe_as Q R f (some a) h = f a h

-- from t, which starts at s, to t', which starts no later, where names of the one are names of the other
module _ (s : ℕ) (t : List ℕ) (e s' : ℕ) (t' : List ℕ) (e' : ℕ) (before : s' ≤ s) (following : e ≤ e') (word : (w : Word) → WordTrue s t e w → WordTrue s' t' e' w) where
  doc : (d : Doc) → DocTrue s t e d → DocTrue s' t' e' d
  doc no_doc h = tt
  doc (doc_at o n) h = (omega (arith, h.0), omega (arith, h.1))

  span_as : (x : Span) → SpanTrue s t e x → SpanTrue s' t' e' x
  span_as (span o n) h = (omega (arith, h.0), omega (arith, h.1))

  annotation : (x : Annotation) → AnnotationTrue s t e x → AnnotationTrue s' t' e' x
  annotation x (true_annotation k v) = true_annotation (word x.key k) (span_as x.value v)

  entry : (x : Entry) → EntryTrue s t e x → EntryTrue s' t' e' x
  entry x (true_entry m w c l) = true_entry m (word x.name w) c (all_as (AnnotationTrue s t e) (AnnotationTrue s' t' e') annotation x.annotations l)

  choice : (x : Choice) → ChoiceTrue s t e x → ChoiceTrue s' t' e' x
  choice x (true_choice d m w b l) = true_choice (doc x.doc d) m (word x.name w) (word x.base b) (all_as (EntryTrue s t e) (EntryTrue s' t' e') entry x.entries l)

  field : (x : Field) → FieldTrue s t e x → FieldTrue s' t' e' x
  field x (true_field k m w c) = true_field (word x.data_type k) m (word x.name w) c

  struct_field : (x : StructField) → StructFieldTrue s t e x → StructFieldTrue s' t' e' x
  struct_field x (true_struct_field m f h) = true_struct_field m f (field x.field h)

  fields : (l : List StructField) → All (StructFieldTrue s t e) l → All (StructFieldTrue s' t' e') l
  fields = all_as (StructFieldTrue s t e) (StructFieldTrue s' t' e') struct_field

  struct_as : (x : Struct) → StructTrue s t e x → StructTrue s' t' e' x
  struct_as x (true_struct d m r f w l) = true_struct (doc x.doc d) m r f (word x.name w) (fields x.fields l)

  event_as : (x : Event) → EventTrue s t e x → EventTrue s' t' e' x
  event_as x (true_event d m f p a w c l) = true_event (doc x.doc d) m f p a (word x.name w) c (fields x.fields l)

  command_as : (x : Command) → CommandTrue s t e x → CommandTrue s' t' e' x
  command_as x (true_command d m f a w i o c) = true_command (doc x.doc d) m f a (word x.name w) (maybe_as (WordTrue s t e) (WordTrue s' t' e') word x.input i) (word x.output o) c

  privileges : (x : Privileges) → PrivilegesTrue s t e x → PrivilegesTrue s' t' e' x
  privileges x (true_privileges r w) = true_privileges r w

  attribute_as : (x : Attribute) → AttributeTrue s t e x → AttributeTrue s' t' e' x
  attribute_as x (true_attribute d m f p h) = true_attribute (doc x.doc d) m f (privileges x.privileges p) (struct_field x.field h)

  member : (x : Member) → MemberTrue s t e x → MemberTrue s' t' e' x
  member (revision n) h = h
  member (bitmap c) h = choice c h
  member (enum c) h = choice c h
  member (struct x) h = struct_as x h
  member (attribute a) h = attribute_as a h
  member (command c) h = command_as c h
  member (event x) h = event_as x h

  device_as : (x : DeviceType) → DeviceTrue s t e x → DeviceTrue s' t' e' x
  device_as x (true_device w c v) = true_device (word x.name w) c v

  default : (x : Default) → DefaultTrue s t e x → DefaultTrue s' t' e' x
  default (number n) h = h
  default (signed_number z) h = h
  default (truth z) h = tt
  default (text x) h = span_as x h

  attribute_instance_as : (x : AttributeInstance) → AttributeInstanceTrue s t e x → AttributeInstanceTrue s' t' e' x
  attribute_instance_as x (true_attribute_instance n w d) = true_attribute_instance n (word x.name w) (maybe_as (DefaultTrue s t e) (DefaultTrue s' t' e') default x.default d)

  instance_as : (x : Instance) → InstanceTrue s t e x → InstanceTrue s' t' e' x
  instance_as (attribute_instance a) h = attribute_instance_as a h
  instance_as (command_instance w) h = word w h
  instance_as (event_instance w) h = word w h

  instantiation_as : (x : Instantiation) → InstantiationTrue s t e x → InstantiationTrue s' t' e' x
  instantiation_as x (true_instantiation w l) = true_instantiation (word x.name w) (all_as (InstanceTrue s t e) (InstanceTrue s' t' e') instance_as x.instances l)

  part : (x : Part) → PartTrue s t e x → PartTrue s' t' e' x
  part (device x) h = device_as x h
  part (binding w) h = word w h
  part (instantiation i) h = instantiation_as i h

  item_as : (x : Item) → ItemTrue s t e x → ItemTrue s' t' e' x
  item_as (cluster_item c) (true_cluster d m w n l) = true_cluster (doc c.doc d) m (word c.name w) n (all_as (MemberTrue s t e) (MemberTrue s' t' e') member c.members l)
  item_as (endpoint_item x) (true_endpoint n l) = true_endpoint n (all_as (PartTrue s t e) (PartTrue s' t' e') part x.parts l)
  item_as (enum_item c) h = choice c h
  item_as (bitmap_item c) h = choice c h
  item_as (struct_item x) h = struct_as x h
  item_as blank_item h = tt

-- a whole text is a part of itself
pub part_whole : (t : List ℕ) → PartOf t 0 t
part_whole t = record { inside = omega arith; same = take-length t }

module _ {t : List ℕ} {b : ℕ} {u : List ℕ} (p : PartOf t b u) where
  abbrev front : List ℕ
  front = take b t

  abbrev back : List ℕ
  back = drop (length u) (drop b t)

  around : front ++ (u ++ back) ≡ t
  around = ap (λ l. front ++ (l ++ back)) (sym p.same) ∙ (ap (λ l. front ++ l) (take-append-drop (length u) (drop b t)) ∙ take-append-drop b t)

  word_whole : (w : Word) → WordTrue b u (b + length u) w → WordTrue 0 t (length t) w
  word_whole w h =
      let n : length front ≡ b = length-take-le b t (omega (arith, p.inside)) in
      let z : b ≡ 0 + length front = omega (arith, n) in
      let k : WordTrue 0 t (b + length u) w = subst (λ (l : List ℕ). WordTrue 0 l (b + length u) w) around (word_around 0 front u back (b + length u) (omega (arith, n)) (subst (λ (s : ℕ). WordTrue s u (b + length u) w) z h)) in
      record { after = omega arith; inside = omega (arith, k.inside, p.inside); same = k.same }

  pub item_whole : (i : Item) → ItemTrue b u (b + length u) i → ItemTrue 0 t (length t) i
  item_whole = item_as b u (b + length u) 0 t (length t) (omega arith) p.inside word_whole

  pub items_whole : (l : List Item) → All (ItemTrue b u (b + length u)) l → All (ItemTrue 0 t (length t)) l
  items_whole = all_as (ItemTrue b u (b + length u)) (ItemTrue 0 t (length t)) item_whole
