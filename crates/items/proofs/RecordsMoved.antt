-- What is moved by d hands out its records moved by d.
use Prim.Native.Nat.{ℕ}
use mathlib.Core.Path.{◌≡◌, refl, sym}
use mathlib.Core.Option.{Option, none, some}
use mathlib.Core.List.{List, [], ◌∷◌, map, map-append}
use Rattle.lexing.specs.words.{Word, word}
use Rattle.lexing.specs.blanks.{Doc, no_doc, doc_at}
use Rattle.lexing.specs.strings.{Span, span}
use Rattle.lexing.proofs.Shift.{shift_word, shift_doc, shift_option, shift_span}
use Rattle.items.specs.entries.{Annotation, Entry, Choice}
use Rattle.items.specs.structs.{StructField, Struct}
use Rattle.items.specs.members.{Event, Command, Attribute}
use Rattle.items.specs.clusters.{Member, revision, bitmap, enum, struct, attribute, command, event, Cluster}
use Rattle.items.specs.endpoints.{Default, number, signed_number, truth, text, Instance, attribute_instance, command_instance, event_instance, Part, device, binding, instantiation, Endpoint}
use Rattle.items.specs.items.{Item, cluster_item, endpoint_item, enum_item, bitmap_item, struct_item, blank_item}
use Rattle.items.specs.records.{moved_extent, moved_further, moved, word_extent, optional_extent, doc_extent, span_extent, doc_bit, plain, documented, annotation_record, entry_record, entry_records, choice_records, field_record, struct_records, attribute_records, command_record, event_records, last_revision, member_records, cluster_records, default_number, default_word, instance_record, part_records, endpoint_records, item_records}
use Rattle.lexing.specs.buffers.{each}
use Rattle.items.proofs.Shift.{shift_annotation, shift_entry, shift_choice, shift_field, shift_struct_field, shift_struct, shift_event, shift_command, shift_attribute, shift_member, shift_cluster, shift_device_type, shift_default, shift_attribute_instance, shift_instance, shift_instantiation, shift_part, shift_endpoint, shift_item, present_moved}

-- lists
map_moved : {A B : Type 0} (f : A → B) (g : A → A) (h : B → B) → ((a : A) → f (g a) ≡ h (f a)) → (l : List A) → map f (map g l) ≡ map h (map f l)
map_moved f g h e [] = refl
map_moved f g h e (a ∷ l) = rw (e a, map_moved f g h e l)

each_moved : {A B : Type 0} (f' f : A → List B) (g : A → A) (h : B → B) → ((a : A) → f' (g a) ≡ map h (f a)) → (l : List A) → each f' (map g l) ≡ map h (each f l)
unfolding each
each_moved f' f g h e [] = refl
each_moved f' f g h e (a ∷ l) = rw (e a, each_moved f' f g h e l) (sym (map-append h (f a) (each f l)))

module _ (d : ℕ) where
  -- a record's parts
  word_moved : (w : Word) → word_extent (shift_word d w) ≡ moved_extent d (word_extent w)
  unfolding word_extent shift_word moved_extent
  word_moved (word o w) = refl

  optional_moved : (o : Option Word) → optional_extent (shift_option (shift_word d) o) ≡ moved_extent d (optional_extent o)
  unfolding optional_extent shift_option moved_extent
  optional_moved none = refl
  optional_moved (some w) = word_moved w

  doc_moved : (c : Doc) → doc_extent (shift_doc d c) ≡ moved_extent d (doc_extent c)
  unfolding doc_extent shift_doc moved_extent
  doc_moved no_doc = refl
  doc_moved (doc_at o n) = refl

  doc_bit_moved : (c : Doc) → doc_bit (shift_doc d c) ≡ doc_bit c
  unfolding doc_bit shift_doc
  doc_bit_moved no_doc = refl
  doc_bit_moved (doc_at o n) = refl

  span_moved : (x : Span) → span_extent (shift_span d x) ≡ moved_extent d (span_extent x)
  unfolding span_extent shift_span moved_extent
  span_moved (span o n) = refl

  default_number_moved : (v : Option Default) → default_number (shift_option (shift_default d) v) ≡ default_number v
  unfolding default_number shift_option shift_default
  default_number_moved none = refl
  default_number_moved (some (number n)) = refl
  default_number_moved (some (signed_number z)) = refl
  default_number_moved (some (truth t)) = refl
  default_number_moved (some (text s)) = refl

  default_word_moved : (v : Option Default) → default_word (shift_option (shift_default d) v) ≡ moved_further d (default_word v)
  unfolding default_word shift_option shift_default shift_span moved_further moved_extent
  default_word_moved none = refl
  default_word_moved (some (number n)) = refl
  default_word_moved (some (signed_number z)) = refl
  default_word_moved (some (truth t)) = refl
  default_word_moved (some (text (span o n))) = refl

  last_revision_moved : (z : ℕ) (ms : List Member) → last_revision z (map (shift_member d) ms) ≡ last_revision z ms
  unfolding last_revision shift_member
  last_revision_moved z [] = refl
  last_revision_moved z (revision n ∷ ms) = last_revision_moved n ms
  last_revision_moved z (bitmap c ∷ ms) = last_revision_moved z ms
  last_revision_moved z (enum c ∷ ms) = last_revision_moved z ms
  last_revision_moved z (struct s ∷ ms) = last_revision_moved z ms
  last_revision_moved z (attribute a ∷ ms) = last_revision_moved z ms
  last_revision_moved z (command c ∷ ms) = last_revision_moved z ms
  last_revision_moved z (event e ∷ ms) = last_revision_moved z ms

  -- entries, enums and bitmaps
  pub annotation_record_moved : (a : Annotation) → annotation_record (shift_annotation d a) ≡ moved d (annotation_record a)
  unfolding annotation_record shift_annotation plain moved moved_further
  annotation_record_moved a = rw (word_moved a.key, span_moved a.value)

  pub entry_records_moved : (e : Entry) → entry_records (shift_entry d e) ≡ map (moved d) (entry_records e)
  unfolding entry_records entry_record shift_entry plain moved moved_further
  entry_records_moved e = rw (word_moved e.name, map_moved annotation_record (shift_annotation d) (moved d) annotation_record_moved e.annotations)

  pub choice_records_moved : (k p : ℕ) (c : Choice) → choice_records k p (shift_choice d c) ≡ map (moved d) (choice_records k p c)
  unfolding choice_records shift_choice documented moved moved_further
  choice_records_moved k p c = rw (doc_bit_moved c.doc, doc_moved c.doc, word_moved c.name, word_moved c.base, each_moved entry_records entry_records (shift_entry d) (moved d) entry_records_moved c.entries)

  -- fields and structs
  pub field_record_moved : (f : StructField) → field_record (shift_struct_field d f) ≡ moved d (field_record f)
  unfolding field_record shift_struct_field shift_field plain moved moved_further
  field_record_moved f = rw (word_moved f.field.name, word_moved f.field.data_type)

  field_records_moved : (fs : List StructField) → map field_record (map (shift_struct_field d) fs) ≡ map (moved d) (map field_record fs)
  field_records_moved = map_moved field_record (shift_struct_field d) (moved d) field_record_moved

  pub struct_records_moved : (p : ℕ) (s : Struct) → struct_records p (shift_struct d s) ≡ map (moved d) (struct_records p s)
  unfolding struct_records shift_struct documented moved moved_further
  struct_records_moved p s = rw (doc_bit_moved s.doc, doc_moved s.doc, word_moved s.name, field_records_moved s.fields)

  -- members and clusters
  pub attribute_records_moved : (a : Attribute) → attribute_records (shift_attribute d a) ≡ map (moved d) (attribute_records a)
  unfolding attribute_records shift_attribute documented moved moved_further moved_extent
  attribute_records_moved a = rw (doc_bit_moved a.doc, doc_moved a.doc, field_record_moved a.field)

  pub command_record_moved : (c : Command) → command_record (shift_command d c) ≡ moved d (command_record c)
  unfolding command_record shift_command documented moved moved_further
  command_record_moved c = rw (doc_bit_moved c.doc, doc_moved c.doc, present_moved (shift_word d) c.input, optional_moved c.input, word_moved c.name, word_moved c.output)

  pub event_records_moved : (e : Event) → event_records (shift_event d e) ≡ map (moved d) (event_records e)
  unfolding event_records shift_event documented moved moved_further
  event_records_moved e = rw (doc_bit_moved e.doc, doc_moved e.doc, word_moved e.name, field_records_moved e.fields)

  pub member_records_moved : (place' place : Member → ℕ) → ((m : Member) → place' (shift_member d m) ≡ place m) → (m : Member) → member_records place' (shift_member d m) ≡ map (moved d) (member_records place m)
  unfolding member_records shift_member
  member_records_moved place' place h (revision n) = refl
  member_records_moved place' place h (bitmap c) = rw (h (bitmap c)) (choice_records_moved 3 (place (bitmap c)) c)
  member_records_moved place' place h (enum c) = rw (h (enum c)) (choice_records_moved 2 (place (enum c)) c)
  member_records_moved place' place h (struct s) = rw (h (struct s)) (struct_records_moved (place (struct s)) s)
  member_records_moved place' place h (attribute a) = attribute_records_moved a
  member_records_moved place' place h (command c) = rw (command_record_moved c)
  member_records_moved place' place h (event e) = event_records_moved e

  pub cluster_records_moved : (place' place : Member → ℕ) → ((m : Member) → place' (shift_member d m) ≡ place m) → (c : Cluster) → cluster_records place' (shift_cluster d c) ≡ map (moved d) (cluster_records place c)
  unfolding cluster_records shift_cluster documented moved moved_further
  cluster_records_moved place' place h c =
      rw (doc_bit_moved c.doc, doc_moved c.doc, word_moved c.name, last_revision_moved 0 c.members, each_moved (member_records place') (member_records place) (shift_member d) (moved d) (member_records_moved place' place h) c.members)

  -- endpoints
  pub instance_record_moved : (i : Instance) → instance_record (shift_instance d i) ≡ moved d (instance_record i)
  unfolding instance_record shift_instance shift_attribute_instance plain moved
  instance_record_moved (attribute_instance a) = rw (default_number_moved a.default, word_moved a.name, default_word_moved a.default)
  instance_record_moved (command_instance n) = rw (word_moved n)
  instance_record_moved (event_instance n) = rw (word_moved n)

  pub part_records_moved : (p : Part) → part_records (shift_part d p) ≡ map (moved d) (part_records p)
  unfolding part_records shift_part shift_device_type shift_instantiation plain moved moved_further
  part_records_moved (device t) = rw (word_moved t.name)
  part_records_moved (binding n) = rw (word_moved n)
  part_records_moved (instantiation i) = rw (word_moved i.name, map_moved instance_record (shift_instance d) (moved d) instance_record_moved i.instances)

  pub endpoint_records_moved : (e : Endpoint) → endpoint_records (shift_endpoint d e) ≡ map (moved d) (endpoint_records e)
  unfolding endpoint_records shift_endpoint plain moved moved_further moved_extent
  endpoint_records_moved e = rw (each_moved part_records part_records (shift_part d) (moved d) part_records_moved e.parts)

  -- items
  pub item_records_moved : (top : ℕ) (place' place : Member → ℕ) → ((m : Member) → place' (shift_member d m) ≡ place m) → (i : Item) → item_records top place' (shift_item d i) ≡ map (moved d) (item_records top place i)
  unfolding item_records shift_item
  item_records_moved top place' place h (cluster_item c) = cluster_records_moved place' place h c
  item_records_moved top place' place h (endpoint_item e) = endpoint_records_moved e
  item_records_moved top place' place h (enum_item c) = choice_records_moved 2 top c
  item_records_moved top place' place h (bitmap_item c) = choice_records_moved 3 top c
  item_records_moved top place' place h (struct_item s) = struct_records_moved top s
  item_records_moved top place' place h blank_item = refl
