-- The place moves by the shift of the base: what each production reads, moved by d, and that the production at an offset moved by d answers so.
use Prim.Native.Nat.{ℕ, ◌+◌, max}
use mathlib.Core.Path.{◌≡◌, refl}
use mathlib.Core.Option.{Option, none, some}
use mathlib.Core.List.{List, [], ◌∷◌, map, map-append}
use native.Mathlib.Omega.{arith}
use Rattle.lexing.specs.reply.{Parser, ret, ◌>>=◌, ◌>>◌, ◌or◌}
use Rattle.lexing.specs.words.{Word, bytes_of, parse_id, keyword, tag}
use Rattle.lexing.specs.integers.{positive_integer}
use Rattle.lexing.specs.blanks.{Doc, whitespace0, whitespace1}
use Rattle.lexing.proofs.Shift.{shift_word, shift_doc, shift_option, still, shift_span, Shifts, shift_ret, shift_bind, shift_then, shift_opt, shift_or, shift_many0, shift_fail, shift_stop, shift_position, shift_catch, shift_pick, shift_iter, shift_parse_id, shift_keyword, shift_any_keyword, shift_tag, shift_integer, shift_signed, shift_whitespace0, shift_whitespace1, shift_quoted, shift_default_string, shift_set_flags, bytes_shift, offset_shift}
use Rattle.items.specs.entries.{present, enclosed, where_missing, braces, api_maturity, Annotation, constant_annotation, blank_annotation, annotations_in_brackets, constant_annotations_list, annotations_of, Entry, constant_entry, blank_entry, constant_entries, constant_entries_list, Choice, shared_before, ChoiceHead, choice_head, choice_after_doc_maturity, parse_enum_after_doc_maturity, parse_bitmap_after_doc_maturity}
use Rattle.items.specs.structs.{Field, max_length, list_marker, parse_field, StructField, parse_struct_field, closed_field, fields_run, struct_fields, Struct, response_code, type_by_word, struct_type_of, StructHead, struct_head, parse_struct_after_doc_maturity}
use Rattle.items.specs.members.{access_privilege, event_priority, Event, access_to, event_qualities, EventHead, event_head, parse_event_after_doc_maturity, Command, CommandHead, command_head, CommandTypes, command_types, parse_command_after_doc_maturity, Access, access_entry, comma, separated_list0, access_list, Privileges, granted_by, default_privileges, listed, attribute_access, Attribute, parse_attribute_after_doc_maturity}
use Rattle.items.specs.clusters.{Member, revision, bitmap, enum, struct, attribute, command, event, mapped, parse_revision, member_tries, parse_cluster_member, cluster_members, Cluster, side, ClusterHead, cluster_head, cluster_after_doc_maturity, parse_cluster}
use Rattle.items.specs.endpoints.{Tried, Deep, intercept, deep_step, deeper, deep_run, deep_place, deep_braces, DeviceType, device_version, device_type, Default, number, signed_number, truth, text, value_tries, default_attribute_value, attribute_handling_type, AttributeInstance, attribute_instantiation, Instance, attribute_instance, command_instance, event_instance, instance_tries, Instantiation, instantiation_head, cluster_instantiation, Part, device, binding, instantiation, part_tries, Endpoint, endpoint_head, endpoint}
use Rattle.lexing.specs.names.{two_keywords_name, named_after}
use Rattle.items.specs.items.{Item, cluster_item, endpoint_item, enum_item, bitmap_item, struct_item, blank_item, with_doc_maturity, item}

-- values, with their offsets moved
unfoldable pub shift_annotation : ℕ → Annotation → Annotation
shift_annotation d a = record { key = shift_word d a.key; value = shift_span d a.value }

unfoldable pub shift_entry : ℕ → Entry → Entry
shift_entry d e = record { maturity = e.maturity; name = shift_word d e.name; code = e.code; annotations = map (shift_annotation d) e.annotations }

unfoldable pub shift_choice_head : ℕ → ChoiceHead → ChoiceHead
shift_choice_head d h = record { head_shared = h.head_shared; head_name = shift_word d h.head_name; head_base = shift_word d h.head_base }

unfoldable pub shift_choice : ℕ → Choice → Choice
shift_choice d c = record {
  shared = c.shared;
  doc = shift_doc d c.doc;
  maturity = c.maturity;
  name = shift_word d c.name;
  base = shift_word d c.base;
  entries = map (shift_entry d) c.entries;
}

unfoldable pub shift_field : ℕ → Field → Field
shift_field d f = record { data_type = shift_word d f.data_type; maximum = f.maximum; name = shift_word d f.name; list = f.list; code = f.code }

unfoldable pub shift_struct_field : ℕ → StructField → StructField
shift_struct_field d f = record { maturity = f.maturity; flags = f.flags; field = shift_field d f.field }

unfoldable pub shift_struct_head : ℕ → StructHead → StructHead
shift_struct_head d h = record { head_type = h.head_type; head_scoped = h.head_scoped; head_name = shift_word d h.head_name }

unfoldable pub shift_struct : ℕ → Struct → Struct
shift_struct d s = record {
  doc = shift_doc d s.doc;
  maturity = s.maturity;
  struct_type = s.struct_type;
  fabric_scoped = s.fabric_scoped;
  name = shift_word d s.name;
  fields = map (shift_struct_field d) s.fields;
}

unfoldable pub shift_event : ℕ → Event → Event
shift_event d e = record {
  doc = shift_doc d e.doc;
  maturity = e.maturity;
  fabric_sensitive = e.fabric_sensitive;
  priority = e.priority;
  access = e.access;
  name = shift_word d e.name;
  code = e.code;
  fields = map (shift_struct_field d) e.fields;
}

unfoldable pub shift_command : ℕ → Command → Command
shift_command d c = record {
  doc = shift_doc d c.doc;
  maturity = c.maturity;
  flags = c.flags;
  access = c.access;
  name = shift_word d c.name;
  input = shift_option (shift_word d) c.input;
  output = shift_word d c.output;
  code = c.code;
}

unfoldable pub shift_event_head : ℕ → EventHead → EventHead
shift_event_head d h = record { sensitive = h.sensitive; rank = h.rank; privilege = h.privilege; id = shift_word d h.id; number = h.number }

unfoldable pub shift_command_head : ℕ → CommandHead → CommandHead
shift_command_head d h = record { qualities = h.qualities; privilege = h.privilege; id = shift_word d h.id }

unfoldable pub shift_command_types : ℕ → CommandTypes → CommandTypes
shift_command_types d t = record { from = shift_option (shift_word d) t.from; to = shift_word d t.to }

unfoldable pub shift_access : ℕ → Access → Access
shift_access d a = record { operation = shift_word d a.operation; granted = a.granted }

unfoldable pub shift_attribute : ℕ → Attribute → Attribute
shift_attribute d a = record { doc = shift_doc d a.doc; maturity = a.maturity; flags = a.flags; privileges = a.privileges; field = shift_struct_field d a.field }

unfoldable pub shift_member : ℕ → Member → Member
shift_member d (revision n) = revision n
shift_member d (bitmap c) = bitmap (shift_choice d c)
shift_member d (enum c) = enum (shift_choice d c)
shift_member d (struct s) = struct (shift_struct d s)
shift_member d (attribute a) = attribute (shift_attribute d a)
shift_member d (command c) = command (shift_command d c)
shift_member d (event e) = event (shift_event d e)

unfoldable pub shift_cluster_head : ℕ → ClusterHead → ClusterHead
shift_cluster_head d h = record { id = shift_word d h.id; number = h.number }

unfoldable pub shift_cluster : ℕ → Cluster → Cluster
shift_cluster d c = record { doc = shift_doc d c.doc; maturity = c.maturity; name = shift_word d c.name; code = c.code; members = map (shift_member d) c.members }

unfoldable pub shift_tried : {A : Type 0} → ℕ → (A → A) → Tried A → Tried A
shift_tried d f t = record { furthest = d + t.furthest; value = f t.value }

unfoldable pub shift_deep : {A : Type 0} → ℕ → (A → A) → Deep A → Deep A
shift_deep d f s = record { deepest = d + s.deepest; read = map f s.read }

unfoldable pub shift_device_type : ℕ → DeviceType → DeviceType
shift_device_type d t = record { name = shift_word d t.name; code = t.code; version = t.version }

unfoldable pub shift_default : ℕ → Default → Default
shift_default d (number n) = number n
shift_default d (signed_number z) = signed_number z
shift_default d (truth t) = truth t
shift_default d (text s) = text (shift_span d s)

unfoldable pub shift_attribute_instance : ℕ → AttributeInstance → AttributeInstance
shift_attribute_instance d a = record { handling = a.handling; name = shift_word d a.name; default = shift_option (shift_default d) a.default }

unfoldable pub shift_instance : ℕ → Instance → Instance
shift_instance d (attribute_instance a) = attribute_instance (shift_attribute_instance d a)
shift_instance d (command_instance n) = command_instance (shift_word d n)
shift_instance d (event_instance n) = event_instance (shift_word d n)

unfoldable pub shift_instantiation : ℕ → Instantiation → Instantiation
shift_instantiation d i = record { name = shift_word d i.name; instances = map (shift_instance d) i.instances }

unfoldable pub shift_part : ℕ → Part → Part
shift_part d (device t) = device (shift_device_type d t)
shift_part d (binding n) = binding (shift_word d n)
shift_part d (instantiation i) = instantiation (shift_instantiation d i)

unfoldable pub shift_endpoint : ℕ → Endpoint → Endpoint
shift_endpoint d e = record { id = e.id; parts = map (shift_part d) e.parts }

unfoldable pub shift_item : ℕ → Item → Item
shift_item d (cluster_item c) = cluster_item (shift_cluster d c)
shift_item d (endpoint_item e) = endpoint_item (shift_endpoint d e)
shift_item d (enum_item c) = enum_item (shift_choice d c)
shift_item d (bitmap_item c) = bitmap_item (shift_choice d c)
shift_item d (struct_item s) = struct_item (shift_struct d s)
shift_item d blank_item = blank_item

-- what does not move
pub present_moved : {A : Type 0} (f : A → A) (o : Option A) → present (shift_option f o) ≡ present o
unfolding present shift_option
present_moved f none = refl
present_moved f (some a) = refl

annotations_moved : (d : ℕ) (o : Option (List Annotation)) → annotations_of (shift_option (map (shift_annotation d)) o) ≡ map (shift_annotation d) (annotations_of o)
unfolding annotations_of shift_option
annotations_moved d none = refl
annotations_moved d (some l) = refl

still_option : {A : Type 0} (o : Option A) → shift_option still o ≡ o
unfolding shift_option still
still_option none = refl
still_option (some a) = refl

-- a declaration after its doc comment and maturity
abbrev pub ShiftsAfter : {A : Type 0} → ℕ → (A → A) → (Doc → ℕ → Parser A) → Type 0
ShiftsAfter d f h = (c' c : Doc) (m' m : ℕ) → c' ≡ shift_doc d c → m' ≡ m → Shifts d f (h c' m') (h c m)

-- tries after a furthest place
abbrev pub ShiftsTries : {A : Type 0} → ℕ → (A → A) → (k' k : ℕ → Parser (Tried A)) → Type 0
ShiftsTries d f k' k = (q' q : ℕ) → q' ≡ d + q → Shifts d (shift_tried d f) (k' q') (k q)

module _ (d : ℕ) where
  -- short names: then; then, with the value read; or; the tokens
  infixr 5 ◌▹◌ ◌▸◌
  infixr 4 ◌∥◌
  ◌▹◌ : {A B : Type 0} {f : A → A} {g : B → B} {m' m : Parser A} {k' k : Parser B} → Shifts d f m' m → Shifts d g k' k → Shifts d g (m' >> k') (m >> k)
  ◌▹◌ = shift_then d

  ◌▸◌ : {A B : Type 0} {f : A → A} {g : B → B} {m' m : Parser A} {k' k : A → Parser B} → Shifts d f m' m → ((a' a : A) → a' ≡ f a → Shifts d g (k' a') (k a)) → Shifts d g (m' >>= k') (m >>= k)
  ◌▸◌ = shift_bind d

  ◌∥◌ : {A : Type 0} {f : A → A} {m' m k' k : Parser A} → Shifts d f m' m → Shifts d f k' k → Shifts d f (m' or k') (m or k)
  ◌∥◌ = shift_or d

  ws0 : Shifts d (shift_doc d) whitespace0 whitespace0
  ws0 = shift_whitespace0 d

  ws1 : Shifts d (shift_doc d) whitespace1 whitespace1
  ws1 = shift_whitespace1 d

  name : Shifts d (shift_word d) parse_id parse_id
  name = shift_parse_id d

  key : (k : List ℕ) → Shifts d (shift_word d) (keyword k) (keyword k)
  key = shift_keyword d

  mark : (t : ℕ) → Shifts d still (tag t) (tag t)
  mark = shift_tag d

  int : Shifts d still positive_integer positive_integer
  int = shift_integer d

  -- shapes that recur: a value made of what is read, a keyword that stands for a value, braces
  pub shift_mapped : {A B : Type 0} {f : A → A} {g : B → B} {m' m : Parser A} (h' h : A → B) → ((a : A) → h' (f a) ≡ g (h a)) → Shifts d f m' m → Shifts d g (mapped m' h') (mapped m h)
  unfolding mapped
  shift_mapped h' h v s = s ▸ λ a' a e. shift_ret d _ _ (rw e (v a))

  stands_for : {A : Type 0} {f : A → A} (k : List ℕ) (a : A) → a ≡ f a → Shifts d f (keyword k >> ret a) (keyword k >> ret a)
  stands_for k a e = key k ▹ shift_ret d a a e

  pub shift_enclosed : {A : Type 0} {f : A → A} {m' m : Parser A} (mend : A → ℕ → ℕ) → ((a : A) (p : ℕ) → mend (f a) (d + p) ≡ d + mend a p) → Shifts d f m' m → Shifts d f (enclosed m' mend) (enclosed m mend)
  unfolding enclosed
  shift_enclosed mend v s = mark _ ▹ s ▸ λ a' a ea. shift_catch d (ws0 ▹ mark _) (λ p' p ep. shift_fail d _ _ (rw (ea, ep) (v a p))) ▹ shift_ret d _ _ ea

  pub shift_braces : {A : Type 0} {f : A → A} {m' m : Parser A} → Shifts d f m' m → Shifts d f (braces m') (braces m)
  unfolding braces where_missing
  shift_braces s = shift_enclosed where_missing (λ a p. refl) s

  -- entries, enums and bitmaps
  pub shift_api_maturity : Shifts d still api_maturity api_maturity
  unfolding api_maturity still
  shift_api_maturity = stands_for _ _ refl ∥ stands_for _ _ refl ∥ stands_for _ _ refl ∥ stands_for _ _ refl ∥ shift_ret d _ _ refl

  pub shift_constant_annotation : Shifts d (shift_annotation d) constant_annotation constant_annotation
  unfolding constant_annotation shift_annotation
  shift_constant_annotation = ws0 ▹ name ▸ λ k' k ek. ws0 ▹ mark _ ▹ ws0 ▹ shift_quoted d ▸ λ v' v ev. ws0 ▹ shift_opt d (mark _) ▹ shift_ret d _ _ (rw (ek, ev))

  pub shift_blank_annotation : Shifts d (shift_annotation d) blank_annotation blank_annotation
  unfolding blank_annotation
  shift_blank_annotation = ws0 ▹ shift_constant_annotation

  pub shift_annotations_in_brackets : Shifts d (map (shift_annotation d)) annotations_in_brackets annotations_in_brackets
  unfolding annotations_in_brackets
  shift_annotations_in_brackets = mark _ ▹ shift_many0 d shift_blank_annotation ▸ λ l' l el. ws0 ▹ mark _ ▹ shift_ret d _ _ el

  pub shift_constant_annotations_list : Shifts d (shift_option (map (shift_annotation d))) constant_annotations_list constant_annotations_list
  unfolding constant_annotations_list
  shift_constant_annotations_list = shift_opt d shift_annotations_in_brackets

  pub shift_constant_entry : Shifts d (shift_entry d) constant_entry constant_entry
  unfolding constant_entry shift_entry still
  shift_constant_entry =
      ws0 ▹ shift_api_maturity ▸ λ m' m em. ws0 ▹ name ▸ λ n' n en. ws0 ▹ mark _ ▹ ws0 ▹ int ▸ λ c' c ec. ws0 ▹
      shift_constant_annotations_list ▸ λ a' a ea. ws0 ▹ mark _ ▹ shift_ret d _ _ (rw (em, en, ec, ea, annotations_moved d a))

  pub shift_blank_entry : Shifts d (shift_entry d) blank_entry blank_entry
  unfolding blank_entry
  shift_blank_entry = ws0 ▹ shift_constant_entry

  pub shift_constant_entries : Shifts d (map (shift_entry d)) constant_entries constant_entries
  unfolding constant_entries
  shift_constant_entries = shift_many0 d shift_blank_entry

  pub shift_constant_entries_list : Shifts d (map (shift_entry d)) constant_entries_list constant_entries_list
  unfolding constant_entries_list
  shift_constant_entries_list = shift_braces shift_constant_entries

  pub shift_shared_before : Shifts d (shift_word d) shared_before shared_before
  unfolding shared_before
  shift_shared_before = key _ ▸ λ w' w ew. ws1 ▹ shift_ret d _ _ ew

  pub shift_choice_head_lem : (k : List ℕ) → Shifts d (shift_choice_head d) (choice_head k) (choice_head k)
  unfolding choice_head shift_choice_head
  shift_choice_head_lem k =
      shift_opt d shift_shared_before ▸ λ s' s es. key k ▹ ws1 ▹ name ▸ λ n' n en. ws0 ▹ mark _ ▹ ws0 ▹ name ▸ λ t' t et. ws0 ▹ shift_ret d _ _ (rw (es, present_moved (shift_word d) s, en, et))

  pub shift_choice_after_doc_maturity : (k : List ℕ) → ShiftsAfter d (shift_choice d) (choice_after_doc_maturity k)
  unfolding choice_after_doc_maturity shift_choice shift_choice_head
  shift_choice_after_doc_maturity k c' c m' m ec em = shift_choice_head_lem k ▸ λ h' h eh. shift_constant_entries_list ▸ λ l' l el. shift_ret d _ _ (rw (ec, em, eh, el))

  pub shift_parse_enum_after_doc_maturity : ShiftsAfter d (shift_choice d) parse_enum_after_doc_maturity
  unfolding parse_enum_after_doc_maturity
  shift_parse_enum_after_doc_maturity = shift_choice_after_doc_maturity _

  pub shift_parse_bitmap_after_doc_maturity : ShiftsAfter d (shift_choice d) parse_bitmap_after_doc_maturity
  unfolding parse_bitmap_after_doc_maturity
  shift_parse_bitmap_after_doc_maturity = shift_choice_after_doc_maturity _

  -- fields and structs
  pub shift_max_length : Shifts d still max_length max_length
  unfolding max_length
  shift_max_length = ws0 ▹ mark _ ▹ ws0 ▹ int ▸ λ n' n en. ws0 ▹ mark _ ▹ shift_ret d _ _ en

  pub shift_list_marker : Shifts d still list_marker list_marker
  unfolding list_marker still
  shift_list_marker = mark _ ▹ ws0 ▹ mark _ ▹ ws0 ▹ shift_ret d _ _ refl

  pub shift_parse_field : Shifts d (shift_field d) parse_field parse_field
  unfolding parse_field shift_field still
  shift_parse_field =
      ws0 ▹ name ▸ λ t' t et. shift_opt d shift_max_length ▸ λ x' x ex. ws1 ▹ name ▸ λ n' n en. ws0 ▹ shift_opt d shift_list_marker ▸ λ l' l el. mark _ ▹ ws0 ▹
      int ▸ λ c' c ec. shift_ret d _ _ (rw (et, ex, still_option x, en, el, still_option l, ec))

  pub shift_parse_struct_field : Shifts d (shift_struct_field d) parse_struct_field parse_struct_field
  unfolding parse_struct_field shift_struct_field still
  shift_parse_struct_field = ws0 ▹ shift_api_maturity ▸ λ m' m em. ws0 ▹ shift_set_flags d _ ▸ λ q' q eq. shift_parse_field ▸ λ f' f ef. shift_ret d _ _ (rw (em, eq, ef))

  pub shift_closed_field : Shifts d (shift_struct_field d) closed_field closed_field
  unfolding closed_field
  shift_closed_field = ws0 ▹ shift_parse_struct_field ▸ λ f' f ef. ws0 ▹ mark _ ▹ shift_ret d _ _ ef

  pub shift_fields_run : Shifts d (map (shift_struct_field d)) fields_run fields_run
  unfolding fields_run
  shift_fields_run = shift_many0 d shift_closed_field

  pub shift_struct_fields : Shifts d (map (shift_struct_field d)) struct_fields struct_fields
  unfolding struct_fields
  shift_struct_fields = shift_braces shift_fields_run

  pub shift_response_code : Shifts d still response_code response_code
  unfolding response_code still
  shift_response_code = mark _ ▹ ws0 ▹ int ▸ λ c' c ec. ws0 ▹ shift_ret d _ _ (rw ec)

  pub shift_struct_kind : (w : List ℕ) → Shifts d still (type_by_word w) (type_by_word w)
  unfolding type_by_word still
  shift_struct_kind w = shift_pick d _ _ refl (shift_ret d _ _ refl) (shift_pick d _ _ refl shift_response_code (shift_pick d _ _ refl (shift_ret d _ _ refl) (shift_ret d _ _ refl)))

  pub shift_struct_type_of : (k' k : Option Word) → k' ≡ shift_option (shift_word d) k → Shifts d still (struct_type_of k') (struct_type_of k)
  unfolding struct_type_of shift_option still
  shift_struct_type_of k' none e = rw e (shift_ret d _ _ refl)
  shift_struct_type_of k' (some w) e = rw (e, bytes_shift d w) (shift_struct_kind (bytes_of w))

  pub shift_struct_head_lem : Shifts d (shift_struct_head d) struct_head struct_head
  unfolding struct_head shift_struct_head still
  shift_struct_head_lem =
      shift_opt d (shift_any_keyword d _) ▸ λ k' k ek. ws0 ▹ shift_set_flags d _ ▸ λ q' q eq. ws0 ▹ key _ ▹ ws1 ▹ name ▸ λ n' n en. ws0 ▹
      shift_struct_type_of k' k ek ▸ λ t' t et. shift_ret d _ _ (rw (et, eq, en))

  pub shift_parse_struct_after_doc_maturity : ShiftsAfter d (shift_struct d) parse_struct_after_doc_maturity
  unfolding parse_struct_after_doc_maturity shift_struct shift_struct_head
  shift_parse_struct_after_doc_maturity c' c m' m ec em = shift_struct_head_lem ▸ λ h' h eh. shift_struct_fields ▸ λ l' l el. shift_ret d _ _ (rw (ec, em, eh, el))

  -- events
  pub shift_access_privilege : Shifts d still access_privilege access_privilege
  unfolding access_privilege still
  shift_access_privilege = stands_for _ _ refl ∥ stands_for _ _ refl ∥ stands_for _ _ refl ∥ stands_for _ _ refl

  pub shift_event_priority : Shifts d still event_priority event_priority
  unfolding event_priority still
  shift_event_priority = stands_for _ _ refl ∥ stands_for _ _ refl ∥ stands_for _ _ refl

  pub shift_access_to : (k : List ℕ) → Shifts d still (access_to k) (access_to k)
  unfolding access_to
  shift_access_to k = key _ ▹ ws0 ▹ mark _ ▹ ws0 ▹ key _ ▹ mark _ ▹ ws0 ▹ shift_access_privilege ▸ λ p' p ep. ws0 ▹ mark _ ▹ shift_ret d _ _ ep

  pub shift_event_qualities : Shifts d still event_qualities event_qualities
  unfolding event_qualities still
  shift_event_qualities =
      shift_set_flags d _ ▸ λ q' q eq. ws0 ▹ shift_event_priority ▸ λ y' y ey. ws1 ▹ key _ ▹ ws1 ▹ shift_opt d (shift_access_to _) ▸ λ a' a ea.
      shift_ret d _ _ (rw (eq, ey, ea, still_option a))

  pub shift_event_head_lem : Shifts d (shift_event_head d) event_head event_head
  unfolding event_head shift_event_head still
  shift_event_head_lem = shift_event_qualities ▸ λ q' q eq. ws0 ▹ name ▸ λ n' n en. ws0 ▹ mark _ ▹ ws0 ▹ int ▸ λ i' i ei. ws0 ▹ shift_ret d _ _ (rw (eq, en, ei))

  pub shift_parse_event_after_doc_maturity : ShiftsAfter d (shift_event d) parse_event_after_doc_maturity
  unfolding parse_event_after_doc_maturity shift_event shift_event_head
  shift_parse_event_after_doc_maturity c' c m' m ec em = shift_event_head_lem ▸ λ h' h eh. shift_struct_fields ▸ λ l' l el. shift_ret d _ _ (rw (ec, em, eh, el))

  -- commands
  pub shift_command_head_lem : Shifts d (shift_command_head d) command_head command_head
  unfolding command_head shift_command_head still
  shift_command_head_lem =
      shift_set_flags d _ ▸ λ q' q eq. ws0 ▹ key _ ▹ shift_opt d (ws0 ▹ shift_access_to _) ▸ λ a' a ea. ws0 ▹ name ▸ λ n' n en. shift_ret d _ _ (rw (eq, ea, still_option a, en))

  pub shift_command_types_lem : Shifts d (shift_command_types d) command_types command_types
  unfolding command_types shift_command_types
  shift_command_types_lem = ws0 ▹ mark _ ▹ ws0 ▹ shift_opt d name ▸ λ i' i ei. ws0 ▹ mark _ ▹ ws0 ▹ mark _ ▹ ws0 ▹ name ▸ λ o' o eo. shift_ret d _ _ (rw (ei, eo))

  pub shift_parse_command_after_doc_maturity : ShiftsAfter d (shift_command d) parse_command_after_doc_maturity
  unfolding parse_command_after_doc_maturity shift_command shift_command_head shift_command_types still
  shift_parse_command_after_doc_maturity c' c m' m ec em =
      shift_command_head_lem ▸ λ h' h eh. shift_command_types_lem ▸ λ t' t et. ws0 ▹ mark _ ▹ ws0 ▹ int ▸ λ i' i ei. ws0 ▹ mark _ ▹ shift_ret d _ _ (rw (ec, em, eh, et, ei))

  -- attributes
  pub shift_access_entry : Shifts d (shift_access d) access_entry access_entry
  unfolding access_entry shift_access still
  shift_access_entry = ws0 ▹ shift_any_keyword d _ ▸ λ k' k ek. ws0 ▹ mark _ ▹ ws0 ▹ shift_access_privilege ▸ λ p' p ep. ws0 ▹ shift_ret d _ _ (rw (ek, ep))

  pub shift_comma : Shifts d still comma comma
  unfolding comma still
  shift_comma = ws0 ▹ mark _ ▹ ws0 ▹ shift_ret d _ _ refl

  pub shift_separated_list0 : {A : Type 0} {f : A → A} {t' t : Parser (Unit {0})} {m' m : Parser A} → Shifts d still t' t → Shifts d f m' m → Shifts d (map f) (separated_list0 t' m') (separated_list0 t m)
  unfolding separated_list0
  shift_separated_list0 v s = shift_catch d (s ▸ λ a' a ea. shift_many0 d (v ▹ s) ▸ λ l' l el. shift_ret d _ _ (rw (ea, el))) (λ p' p ep. shift_ret d _ _ refl)

  pub shift_access_list : Shifts d (map (shift_access d)) access_list access_list
  unfolding access_list
  shift_access_list = ws0 ▹ key _ ▹ ws0 ▹ mark _ ▹ ws0 ▹ shift_separated_list0 shift_comma shift_access_entry ▸ λ l' l el. ws0 ▹ mark _ ▹ shift_ret d _ _ el

  pub shift_granted_by : (p : Privileges) (l' l : List Access) → l' ≡ map (shift_access d) l → Shifts d still (granted_by p l') (granted_by p l)
  unfolding granted_by shift_access still
  shift_granted_by p l' [] e = rw e (shift_ret d _ _ refl)
  shift_granted_by p l' (a ∷ l) e =
      rw (e, bytes_shift d a.operation, offset_shift d a.operation)
      (shift_pick d _ _ refl (shift_granted_by (record { read = a.granted; write = p.write }) _ l refl) (shift_pick d _ _ refl (shift_granted_by (record { read = p.read; write = a.granted }) _ l refl) (shift_stop d 6 _ _ refl)))

  listed_moved : (o : Option (List Access)) → listed (shift_option (map (shift_access d)) o) ≡ map (shift_access d) (listed o)
  unfolding listed shift_option
  listed_moved none = refl
  listed_moved (some l) = refl

  pub shift_attribute_access : Shifts d still attribute_access attribute_access
  unfolding attribute_access
  shift_attribute_access = shift_opt d shift_access_list ▸ λ l' l el. shift_granted_by default_privileges (listed l') (listed l) (rw el (listed_moved l))

  pub shift_parse_attribute_after_doc_maturity : ShiftsAfter d (shift_attribute d) parse_attribute_after_doc_maturity
  unfolding parse_attribute_after_doc_maturity shift_attribute still
  shift_parse_attribute_after_doc_maturity c' c m' m ec em =
      shift_set_flags d _ ▸ λ q' q eq. ws0 ▹ key _ ▹ ws1 ▹ shift_attribute_access ▸ λ p' p ep. ws0 ▹ shift_parse_struct_field ▸ λ f' f ef. ws0 ▹ mark _ ▹ shift_ret d _ _ (rw (ec, em, eq, ep, ef))

  -- clusters
  pub shift_parse_revision : Shifts d (shift_member d) parse_revision parse_revision
  unfolding parse_revision shift_member still
  shift_parse_revision = key _ ▹ ws1 ▹ int ▸ λ n' n en. ws0 ▹ mark _ ▹ shift_ret d _ _ (rw en)

  pub shift_member_tries : ShiftsAfter d (shift_member d) member_tries
  unfolding member_tries shift_member
  shift_member_tries c' c m' m ec em =
      shift_parse_revision
      ∥ shift_mapped _ _ (λ a. refl) (shift_parse_bitmap_after_doc_maturity c' c m' m ec em)
      ∥ shift_mapped _ _ (λ a. refl) (shift_parse_enum_after_doc_maturity c' c m' m ec em)
      ∥ shift_mapped _ _ (λ a. refl) (shift_parse_struct_after_doc_maturity c' c m' m ec em)
      ∥ shift_mapped _ _ (λ a. refl) (shift_parse_attribute_after_doc_maturity c' c m' m ec em)
      ∥ shift_mapped _ _ (λ a. refl) (shift_parse_command_after_doc_maturity c' c m' m ec em)
      ∥ shift_mapped _ _ (λ a. refl) (shift_parse_event_after_doc_maturity c' c m' m ec em)

  pub shift_parse_cluster_member : Shifts d (shift_member d) parse_cluster_member parse_cluster_member
  unfolding parse_cluster_member still
  shift_parse_cluster_member = ws0 ▸ λ c' c ec. shift_api_maturity ▸ λ m' m em. ws0 ▹ shift_member_tries c' c m' m ec em

  pub shift_cluster_members : Shifts d (map (shift_member d)) cluster_members cluster_members
  unfolding cluster_members
  shift_cluster_members = shift_many0 d shift_parse_cluster_member

  pub shift_side : Shifts d (shift_word d) side side
  unfolding side
  shift_side = shift_any_keyword d _ ▸ λ w' w ew. ws1 ▹ shift_ret d _ _ ew

  pub shift_cluster_head_lem : Shifts d (shift_cluster_head d) cluster_head cluster_head
  unfolding cluster_head shift_cluster_head still
  shift_cluster_head_lem = shift_opt d shift_side ▹ key _ ▹ ws1 ▹ name ▸ λ n' n en. ws0 ▹ mark _ ▹ ws0 ▹ int ▸ λ k' k ek. ws0 ▹ shift_ret d _ _ (rw (en, ek))

  pub shift_cluster_after_doc_maturity : ShiftsAfter d (shift_cluster d) cluster_after_doc_maturity
  unfolding cluster_after_doc_maturity shift_cluster shift_cluster_head
  shift_cluster_after_doc_maturity c' c m' m ec em = shift_cluster_head_lem ▸ λ h' h eh. shift_braces shift_cluster_members ▸ λ l' l el. shift_ret d _ _ (rw (ec, em, eh, el))

  pub shift_parse_cluster : Shifts d (shift_cluster d) parse_cluster parse_cluster
  unfolding parse_cluster still
  shift_parse_cluster = ws0 ▸ λ c' c ec. shift_api_maturity ▸ λ m' m em. ws0 ▹ shift_cluster_after_doc_maturity c' c m' m ec em

  -- tries between braces, with the furthest place
  pub shift_intercept : {A : Type 0} {f : A → A} {m' m : Parser A} {k' k : ℕ → Parser (Tried A)} (q' q : ℕ) → q' ≡ d + q → Shifts d f m' m → ShiftsTries d f k' k → Shifts d (shift_tried d f) (intercept q' m' k') (intercept q m k)
  unfolding intercept shift_tried
  shift_intercept q' q e s v = shift_catch d (shift_mapped _ _ (λ a. rw e) s) (λ p' p ep. v (max q' p') (max q p) (omega arith))

  pub shift_deep_step : {A : Type 0} (f : A → A) (h : ℕ → Parser (Tried A)) → ShiftsTries d f h h → (s' s : Deep A) → s' ≡ shift_deep d f s → Shifts d (shift_deep d f) (deep_step h s') (deep_step h s)
  unfolding deep_step shift_deep shift_tried
  shift_deep_step f h v s' s e = rw e (ws0 ▹ shift_mapped _ _ (λ t. rw (map-append f s.read (t.value ∷ []))) (v (d + s.deepest) s.deepest refl))

  deeper_moved : {A : Type 0} (f : A → A) (p : ℕ) (s : Deep A) → deeper (d + p) (shift_deep d f s) ≡ shift_deep d f (deeper p s)
  unfolding deeper shift_deep
  deeper_moved f p s = let z : max (d + p) (d + s.deepest) ≡ d + max p s.deepest = omega arith in rw z

  pub shift_deep_run : {A : Type 0} (f : A → A) (h : ℕ → Parser (Tried A)) → ShiftsTries d f h h → Shifts d (shift_deep d f) (deep_run h) (deep_run h)
  unfolding deep_run shift_deep
  shift_deep_run f h v = shift_position d ▸ λ b' b eb. shift_iter d (shift_deep d f) (deep_step h) deeper (shift_deep_step f h v) (deeper_moved f) _ _ (rw eb)

  deep_place_moved : {A : Type 0} (f : A → A) (s : Deep A) (p : ℕ) → deep_place (shift_deep d f s) (d + p) ≡ d + deep_place s p
  unfolding deep_place shift_deep
  deep_place_moved f s p = omega arith

  pub shift_deep_braces : {A : Type 0} {f : A → A} (h : ℕ → Parser (Tried A)) → ShiftsTries d f h h → Shifts d (map f) (deep_braces h) (deep_braces h)
  unfolding deep_braces shift_deep
  shift_deep_braces {A} {f} h v = shift_mapped _ _ (λ s. refl) (shift_enclosed deep_place (deep_place_moved f) (shift_deep_run f h v))

  -- endpoints
  pub shift_two_keywords_name : (k j : List ℕ) → Shifts d (shift_word d) (two_keywords_name k j) (two_keywords_name k j)
  unfolding two_keywords_name
  shift_two_keywords_name k j = key k ▹ ws1 ▹ key j ▹ ws1 ▹ name

  pub shift_device_version : Shifts d still device_version device_version
  unfolding device_version still
  shift_device_version = ws0 ▹ mark _ ▹ ws0 ▹ key _ ▹ ws0 ▹ int ▸ λ v' v ev. ws0 ▹ mark _ ▹ shift_ret d _ _ ev

  pub shift_device_type_lem : Shifts d (shift_device_type d) device_type device_type
  unfolding device_type shift_device_type still
  shift_device_type_lem =
      shift_two_keywords_name _ _ ▸ λ n' n en. ws0 ▹ mark _ ▹ ws0 ▹ int ▸ λ c' c ec. shift_device_version ▸ λ v' v ev. shift_ret d _ _ (rw (en, ec, ev))

  pub shift_value_tries : Shifts d (shift_default d) value_tries value_tries
  unfolding value_tries shift_default still
  shift_value_tries =
      shift_mapped _ _ (λ n. refl) int
      ∥ shift_mapped _ _ (λ z. refl) (shift_signed d)
      ∥ stands_for _ _ refl
      ∥ stands_for _ _ refl
      ∥ shift_mapped _ _ (λ s. refl) (shift_default_string d)

  pub shift_default_attribute_value : Shifts d (shift_default d) default_attribute_value default_attribute_value
  unfolding default_attribute_value
  shift_default_attribute_value = key _ ▹ ws0 ▹ mark _ ▹ ws0 ▹ shift_value_tries

  pub shift_attribute_handling_type : Shifts d still attribute_handling_type attribute_handling_type
  unfolding attribute_handling_type still
  shift_attribute_handling_type = stands_for _ _ refl ∥ stands_for _ _ refl ∥ stands_for _ _ refl

  pub shift_attribute_instantiation : Shifts d (shift_attribute_instance d) attribute_instantiation attribute_instantiation
  unfolding attribute_instantiation shift_attribute_instance still
  shift_attribute_instantiation =
      shift_attribute_handling_type ▸ λ h' h eh. ws1 ▹ key _ ▹ ws1 ▹ name ▸ λ n' n en. shift_opt d (ws1 ▹ shift_default_attribute_value) ▸ λ v' v ev. ws0 ▹ mark _ ▹
      shift_ret d _ _ (rw (eh, en, ev))

  pub shift_named_after : (k j : List ℕ) → Shifts d (shift_word d) (named_after k j) (named_after k j)
  unfolding named_after
  shift_named_after k j = shift_two_keywords_name k j ▸ λ n' n en. ws0 ▹ mark _ ▹ shift_ret d _ _ en

  pub shift_instance_tries : ShiftsTries d (shift_instance d) instance_tries instance_tries
  unfolding instance_tries shift_instance
  shift_instance_tries q' q e =
      shift_intercept q' q e (shift_mapped _ _ (λ a. refl) shift_attribute_instantiation)
      λ q' q e. shift_intercept q' q e (shift_mapped _ _ (λ n. refl) (shift_named_after _ _))
      λ q' q e. shift_intercept q' q e (shift_mapped _ _ (λ n. refl) (shift_named_after _ _))
      λ q' q e. shift_fail d q' q e

  pub shift_instantiation_head : Shifts d (shift_word d) instantiation_head instantiation_head
  unfolding instantiation_head
  shift_instantiation_head = ws0 ▹ shift_two_keywords_name _ _ ▸ λ n' n en. ws0 ▹ shift_ret d _ _ en

  pub shift_cluster_instantiation : Shifts d (shift_instantiation d) cluster_instantiation cluster_instantiation
  unfolding cluster_instantiation shift_instantiation
  shift_cluster_instantiation = shift_instantiation_head ▸ λ n' n en. shift_deep_braces instance_tries shift_instance_tries ▸ λ l' l el. shift_ret d _ _ (rw (en, el))

  pub shift_part_tries : ShiftsTries d (shift_part d) part_tries part_tries
  unfolding part_tries shift_part
  shift_part_tries q' q e =
      shift_intercept q' q e (shift_mapped _ _ (λ t. refl) shift_device_type_lem)
      λ q' q e. shift_intercept q' q e (shift_mapped _ _ (λ n. refl) (ws0 ▹ shift_named_after _ _))
      λ q' q e. shift_intercept q' q e (shift_mapped _ _ (λ i. refl) shift_cluster_instantiation)
      λ q' q e. shift_fail d q' q e

  pub shift_endpoint_head : Shifts d still endpoint_head endpoint_head
  unfolding endpoint_head
  shift_endpoint_head = ws0 ▹ key _ ▹ ws1 ▹ int ▸ λ n' n en. ws0 ▹ shift_ret d _ _ en

  pub shift_endpoint_lem : Shifts d (shift_endpoint d) endpoint endpoint
  unfolding endpoint shift_endpoint still
  shift_endpoint_lem = shift_endpoint_head ▸ λ n' n en. shift_deep_braces part_tries shift_part_tries ▸ λ l' l el. shift_ret d _ _ (rw (en, el))

  -- items
  pub shift_with_doc_maturity : {A : Type 0} {f : A → A} (h : Doc → ℕ → Parser A) → ShiftsAfter d f h → Shifts d f (with_doc_maturity h) (with_doc_maturity h)
  unfolding with_doc_maturity still
  shift_with_doc_maturity h v = ws0 ▸ λ c' c ec. ws0 ▹ shift_api_maturity ▸ λ m' m em. ws0 ▹ v c' c m' m ec em

  pub shift_item_lem : Shifts d (shift_item d) item item
  unfolding item shift_item
  shift_item_lem =
      shift_mapped _ _ (λ c. refl) shift_parse_cluster
      ∥ shift_mapped _ _ (λ e. refl) shift_endpoint_lem
      ∥ shift_mapped _ _ (λ c. refl) (shift_with_doc_maturity _ shift_parse_enum_after_doc_maturity)
      ∥ shift_mapped _ _ (λ c. refl) (shift_with_doc_maturity _ shift_parse_bitmap_after_doc_maturity)
      ∥ shift_mapped _ _ (λ s. refl) (shift_with_doc_maturity _ shift_parse_struct_after_doc_maturity)
      ∥ (ws1 ▹ shift_ret d _ _ refl)
