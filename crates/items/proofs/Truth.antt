-- What is read is in the text: every name is the text's bytes at its offset, every span lies inside, every number fits its bits.
-- A part t of the text begins at offset s; a declaration is read somewhere in it and ends at an offset `end` or before. For a whole text s is 0.
use Prim.Native.Nat.{ℕ, ◌^◌, ◌≤◌, ◌<◌}
use mathlib.Core.Path.{◌≡◌}
use mathlib.Core.Bool.{true, false}
use mathlib.Core.Option.{Option, none, some}
use mathlib.Core.List.{List, [], ◌∷◌, ◌++◌}
use lib.Dec.{lit<}
use Rattle.lexing.specs.reply.{ok, Parser, ◌>>◌, opt, many0}
use Rattle.lexing.specs.bytes.{ascii}
use Rattle.lexing.specs.words.{Word, parse_id, any_keyword}
use Rattle.lexing.specs.blanks.{Doc, whitespace0, whitespace1}
use Rattle.lexing.specs.answers.{Rest}
use Rattle.lexing.proofs.Onward.{Onward, advances_onward, tag_advances}
use Rattle.lexing.proofs.Slicing.{walks}
use Rattle.lexing.proofs.Locality.{OnChain, LocalInside, Consumes, chain_then, chain_opt, chain_many0, chain_iter, chain_position, chain_local, chain_inside}
use Rattle.lexing.proofs.TokenLocality.{whitespace0_chain}
use Rattle.items.specs.entries.{enclosed, where_missing, braces, api_maturity, Annotation, constant_annotation, blank_annotation, annotations_in_brackets, constant_annotations_list, annotations_of, Entry, constant_entry, blank_entry, constant_entries, constant_entries_list, Choice, ChoiceHead, choice_head, choice_after_doc_maturity, parse_enum_after_doc_maturity, parse_bitmap_after_doc_maturity}
use Rattle.items.specs.structs.{Field, max_length, parse_field, StructField, parse_struct_field, closed_field, fields_run, struct_fields, StructType, Struct, response_code, type_by_word, struct_type_of, StructHead, struct_head, parse_struct_after_doc_maturity}
use Rattle.items.specs.members.{access_privilege, or_else, event_priority, Event, access_to, EventQualities, event_qualities, EventHead, event_head, parse_event_after_doc_maturity, Command, CommandHead, invoke_access, command_head, CommandTypes, command_types, parse_command_after_doc_maturity, Access, access_entry, comma, separated_list0, access_list, Privileges, granted_by, default_privileges, listed, attribute_access, Attribute, parse_attribute_after_doc_maturity}
use Rattle.items.specs.clusters.{Member, revision, bitmap, enum, struct, attribute, command, event, mapped, parse_revision, member_tries, parse_cluster_member, cluster_members, Cluster, ClusterHead, cluster_head, cluster_after_doc_maturity, parse_cluster}
use Rattle.items.specs.endpoints.{Tried, Deep, intercept, deep_step, deeper, deep_run, deep_place, deep_braces, DeviceType, device_version, device_type, Default, number, signed_number, truth, text, value_tries, default_attribute_value, attribute_handling_type, AttributeInstance, attribute_instantiation, Instance, attribute_instance, command_instance, event_instance, instance_tries, Instantiation, instantiation_head, cluster_instantiation, Part, device, binding, instantiation, part_tries, Endpoint, endpoint_head, endpoint}
use Rattle.items.specs.items.{Item, cluster_item, endpoint_item, enum_item, bitmap_item, struct_item, blank_item, with_doc_maturity, item}
use Rattle.items.specs.records.{response_of}
use Rattle.lexing.proofs.Truth.{All, Maybe, token_onward, InRange, Read, Gives, WordTrue, SpanTrue, DocTrue, gives_ret, gives_fail, gives_stop, gives_pick, gives_catch, gives_or, gives_opt, gives_bind, gives_then, gives_many0, gives_iter, gives_made, gives_last, given, from, word_true, doc_true, integer_true, signed_true, default_string_true, quoted_string_true, gives_word, gives_any_keyword, two_keywords_name_true, named_after_true, field_flags, struct_flags, event_flags, command_flags, attribute_flags}
use Rattle.lexing.proofs.Composed.{onward_ret, onward_fail, onward_stop, onward_pick, onward_catch, onward_bind, onward_then}
use Rattle.items.proofs.Locality.{braces_chain, mapped_inside, api_maturity_local, optional_comma_chain, blank_annotation_chain, constant_annotations_list_inside, blank_entry_inside, constant_entries_list_local, shared_before_local, choice_head_local, choice_after_doc_maturity_local, max_length_local, list_marker_local, parse_field_inside, parse_struct_field_inside, closed_field_inside, struct_fields_local, struct_type_of_local, struct_head_local, parse_struct_local, access_privilege_local, event_priority_local, access_to_inside, event_qualities_inside, event_head_inside, command_head_inside, command_types_inside, access_entry_inside, access_entry_consumes, comma_local, separated_list0_inside, access_list_inside, attribute_access_inside, member_tries_inside, parse_cluster_member_inside, side_local, cluster_head_local, deep_run_inside, two_keywords_name_local, device_version_local, value_tries_local, default_attribute_value_local, attribute_handling_type_local, instance_tries_inside, instance_tries_consumes, instantiation_head_local, instances_local, part_tries_inside, part_tries_consumes, endpoint_head_local, parts_local}

-- where a step ends: the rules of tokens and combinators, and the certificates of the productions
pub ruleset onward_rules = (token_onward, braces_chain, member_tries_inside, value_tries_local, api_maturity_local, constant_annotations_list_inside, constant_entries_list_local, shared_before_local, choice_head_local, max_length_local, list_marker_local, parse_field_inside, parse_struct_field_inside, struct_fields_local, struct_type_of_local, struct_head_local, access_privilege_local, event_priority_local, access_to_inside, event_qualities_inside, event_head_inside, command_head_inside, command_types_inside, comma_local, access_entry_inside, access_entry_consumes, separated_list0_inside, access_list_inside, attribute_access_inside, member_tries_inside, parse_cluster_member_inside, side_local, cluster_head_local, two_keywords_name_local, device_version_local, default_attribute_value_local, attribute_handling_type_local, instantiation_head_local, instances_local, endpoint_head_local, parts_local)

-- a value that a function changes
pub gives_mapped : {s : ℕ} {t : List ℕ} {end : ℕ} {A B : Type 0} {R : B → Type 0} {m : Parser A} (f : A → B) → ((a : A) → Read s t end m a → R (f a)) → Gives s t end R (mapped m f)
unfolding mapped
gives_mapped f v = gives_made f v

module _ (s : ℕ) (t : List ℕ) (end : ℕ) where
  enclosed_true : {A : Type 0} {R : A → Type 0} {m : Parser A} (g : A → ℕ → ℕ) → Onward m → ((a : A) → Read s t end m a → R a) → (a : A) → Read s t end (enclosed m g) a → R a
  unfolding enclosed
  enclosed_true g w v = from (gives_then (advances_onward (tag_advances 123)) (gives_bind w (λ a. onward_then (onward_catch (onward_then (walks whitespace0_chain) (advances_onward (tag_advances 125))) λ p. onward_fail (g a p)) (onward_ret a)) λ a h. gives_last _ a (v a h)))

  -- declarations between braces
  list_true : {A : Type 0} {R : A → Type 0} {m : Parser A} → OnChain m → ((a : A) → Read s t end m a → R a) → (l : List A) → Read s t end (braces (many0 m)) l → All R l
  unfolding braces
  list_true w v = enclosed_true where_missing (walks (chain_many0 w)) (from (gives_many0 (walks w) (given v)))

  -- Certificates are found by search: the rules of the combinators, what is known of a token's value, what a step leaves after it.
  ruleset gives_rules = (gives_ret, gives_last, gives_bind, gives_then, gives_or, gives_catch, gives_pick, gives_fail, gives_stop, gives_mapped, gives_word, lit<)

  ruleset token_rules = (word_true, doc_true, integer_true, signed_true)

  -- entries, enums and bitmaps
  maturity_true : (m : ℕ) → Read s t end api_maturity m → m < 2 ^ 2
  unfolding api_maturity
  maturity_true = from (search (gives_rules, onward_rules) depth 20)

  ruleset value_rules = (gives_rules, onward_rules, token_rules, maturity_true)

  pub data AnnotationTrue (a : Annotation) : Type 0 where
    true_annotation : WordTrue s t end a.key → SpanTrue s t end a.value → AnnotationTrue a

  annotation_true : (a : Annotation) → Read s t end blank_annotation a → AnnotationTrue a
  unfolding blank_annotation constant_annotation
  annotation_true = from (search (value_rules, true_annotation, quoted_string_true, optional_comma_chain) depth 24)

  annotations_run : (l : List Annotation) → Read s t end (many0 blank_annotation) l → All AnnotationTrue l
  annotations_run = from (gives_many0 (walks blank_annotation_chain) (given annotation_true))

  gives_annotations : Gives s t end (All AnnotationTrue) annotations_in_brackets
  unfolding annotations_in_brackets
  gives_annotations =
      gives_then (advances_onward (tag_advances 91)) (gives_bind (walks (chain_many0 blank_annotation_chain)) (λ l. onward_then (walks whitespace0_chain) (onward_then (advances_onward (tag_advances 93)) (onward_ret l))) λ l h.
      gives_then (walks whitespace0_chain) (gives_last _ l (annotations_run l h)))

  annotations_true : (o : Option (List Annotation)) → Read s t end constant_annotations_list o → All AnnotationTrue (annotations_of o)
  unfolding constant_annotations_list annotations_of
  annotations_true none h = tt
  annotations_true (some l) h = (gives_opt gives_annotations).holds (some l) h

  pub data EntryTrue (e : Entry) : Type 0 where
    true_entry : e.maturity < 2 ^ 2 → WordTrue s t end e.name → e.code < 2 ^ 64 → All AnnotationTrue e.annotations → EntryTrue e

  entry_true : (e : Entry) → Read s t end constant_entry e → EntryTrue e
  unfolding constant_entry
  entry_true = from (search (value_rules, true_entry, annotations_true) depth 30 fits 5000)

  entries_true : (l : List Entry) → Read s t end constant_entries_list l → All EntryTrue l
  unfolding constant_entries_list constant_entries blank_entry
  entries_true = list_true (chain_inside blank_entry_inside) (from (search (value_rules, given entry_true) depth 5))

  pub data ChoiceTrue (c : Choice) : Type 0 where
    true_choice : DocTrue s t end c.doc → c.maturity < 2 ^ 2 → WordTrue s t end c.name → WordTrue s t end c.base → All EntryTrue c.entries → ChoiceTrue c

  data ChoiceHeadTrue (h : ChoiceHead) : Type 0 where
    true_choice_head : WordTrue s t end h.head_name → WordTrue s t end h.head_base → ChoiceHeadTrue h

  choice_head_true : (k : List ℕ) (h : ChoiceHead) → Read s t end (choice_head k) h → ChoiceHeadTrue h
  unfolding choice_head
  choice_head_true k = from (search (value_rules, true_choice_head) depth 30)

  -- fields and structs
  abbrev pub NumberTrue : ℕ → Type 0
  NumberTrue n = n < 2 ^ 64

  pub data FieldTrue (f : Field) : Type 0 where
    true_field : WordTrue s t end f.data_type → Maybe NumberTrue f.maximum → WordTrue s t end f.name → f.code < 2 ^ 64 → FieldTrue f

  maximum_true : (o : Option ℕ) → Read s t end (opt max_length) o → Maybe NumberTrue o
  unfolding max_length
  maximum_true = from (gives_opt (search value_rules depth 12))

  field_true : (f : Field) → Read s t end parse_field f → FieldTrue f
  unfolding parse_field
  field_true = from (search (value_rules, true_field, maximum_true) depth 24)

  pub data StructFieldTrue (f : StructField) : Type 0 where
    true_struct_field : f.maturity < 2 ^ 2 → f.flags < 2 ^ 3 → FieldTrue f.field → StructFieldTrue f

  struct_field_true : (f : StructField) → Read s t end parse_struct_field f → StructFieldTrue f
  unfolding parse_struct_field
  struct_field_true = from (search (value_rules, true_struct_field, field_flags, field_true) depth 16)

  fields_true : (l : List StructField) → Read s t end struct_fields l → All StructFieldTrue l
  unfolding struct_fields fields_run closed_field
  fields_true = list_true (chain_inside closed_field_inside) (from (search (value_rules, struct_field_true) depth 12))

  pub data StructTrue (x : Struct) : Type 0 where
    true_struct : DocTrue s t end x.doc → x.maturity < 2 ^ 2 → response_of x.struct_type < 2 ^ 64 → x.fabric_scoped < 2 ^ 1 → WordTrue s t end x.name → All StructFieldTrue x.fields → StructTrue x

  data StructHeadTrue (h : StructHead) : Type 0 where
    true_struct_head : response_of h.head_type < 2 ^ 64 → h.head_scoped < 2 ^ 1 → WordTrue s t end h.head_name → StructHeadTrue h

  type_true : (k : Option Word) (y : StructType) → Read s t end (struct_type_of k) y → response_of y < 2 ^ 64
  unfolding struct_type_of type_by_word response_code response_of
  type_true none = from (search gives_rules depth 4)
  type_true (some w) = from (search value_rules depth 12)

  struct_head_true : (h : StructHead) → Read s t end struct_head h → StructHeadTrue h
  unfolding struct_head
  struct_head_true = from (search (value_rules, true_struct_head, struct_flags, type_true) depth 24)

  -- events, commands and attributes
  privilege_true : (p : ℕ) → Read s t end access_privilege p → p < 2 ^ 2
  unfolding access_privilege
  privilege_true = from (search (gives_rules, onward_rules) depth 12)

  priority_true : (p : ℕ) → Read s t end event_priority p → p < 2 ^ 2
  unfolding event_priority
  priority_true = from (search (gives_rules, onward_rules) depth 12)

  abbrev PrivilegeTrue : ℕ → Type 0
  PrivilegeTrue p = p < 2 ^ 2

  gives_access : (k : List ℕ) → Gives s t end PrivilegeTrue (access_to k)
  unfolding access_to
  gives_access k = search (value_rules, privilege_true) depth 24

  or_else_true : (z : ℕ) → z < 2 ^ 2 → (o : Option ℕ) → Maybe PrivilegeTrue o → or_else z o < 2 ^ 2
  unfolding or_else
  or_else_true z h none k = h
  or_else_true z h (some n) k = k

  read_access_true : (o : Option ℕ) → Read s t end (opt (access_to (ascii "read"))) o → or_else 0 o < 2 ^ 2
  read_access_true o h = or_else_true 0 (lit< tt) o ((gives_opt (gives_access (ascii "read"))).holds o h)

  invoke_access_true : (o : Option ℕ) → Read s t end (opt invoke_access) o → or_else 1 o < 2 ^ 2
  invoke_access_true o h = or_else_true 1 (lit< tt) o ((gives_opt (gives_then (walks whitespace0_chain) (gives_access (ascii "invoke")))).holds o h)

  data EventQualitiesTrue (q : EventQualities) : Type 0 where
    true_event_qualities : q.sensitive < 2 ^ 1 → q.rank < 2 ^ 2 → q.privilege < 2 ^ 2 → EventQualitiesTrue q

  event_qualities_true : (q : EventQualities) → Read s t end event_qualities q → EventQualitiesTrue q
  unfolding event_qualities
  event_qualities_true = from (search (value_rules, true_event_qualities, event_flags, priority_true, read_access_true) depth 24)

  data EventHeadTrue (h : EventHead) : Type 0 where
    true_event_head : h.sensitive < 2 ^ 1 → h.rank < 2 ^ 2 → h.privilege < 2 ^ 2 → WordTrue s t end h.id → h.number < 2 ^ 64 → EventHeadTrue h

  event_head_of : (q : EventQualities) (n : Word) (c : ℕ) → EventQualitiesTrue q → WordTrue s t end n → c < 2 ^ 64 → EventHeadTrue (record { sensitive = q.sensitive; rank = q.rank; privilege = q.privilege; id = n; number = c })
  event_head_of q n c (true_event_qualities x y z) h k = true_event_head x y z h k

  event_head_true : (h : EventHead) → Read s t end event_head h → EventHeadTrue h
  unfolding event_head
  event_head_true = from (search (value_rules, event_head_of, event_qualities_true) depth 24)

  pub data EventTrue (e : Event) : Type 0 where
    true_event : DocTrue s t end e.doc → e.maturity < 2 ^ 2 → e.fabric_sensitive < 2 ^ 1 → e.priority < 2 ^ 2 → e.access < 2 ^ 2 → WordTrue s t end e.name → e.code < 2 ^ 64 → All StructFieldTrue e.fields → EventTrue e

  pub data CommandTrue (c : Command) : Type 0 where
    true_command : DocTrue s t end c.doc → c.maturity < 2 ^ 2 → c.flags < 2 ^ 2 → c.access < 2 ^ 2 → WordTrue s t end c.name → Maybe (WordTrue s t end) c.input → WordTrue s t end c.output → c.code < 2 ^ 64 → CommandTrue c

  data CommandHeadTrue (h : CommandHead) : Type 0 where
    true_command_head : h.qualities < 2 ^ 2 → h.privilege < 2 ^ 2 → WordTrue s t end h.id → CommandHeadTrue h

  command_head_true : (h : CommandHead) → Read s t end command_head h → CommandHeadTrue h
  unfolding command_head
  command_head_true = from (search (value_rules, true_command_head, command_flags, invoke_access_true) depth 24)

  data CommandTypesTrue (h : CommandTypes) : Type 0 where
    true_command_types : Maybe (WordTrue s t end) h.from → WordTrue s t end h.to → CommandTypesTrue h

  input_true : (o : Option Word) → Read s t end (opt parse_id) o → Maybe (WordTrue s t end) o
  input_true = from (gives_opt gives_word)

  command_types_true : (h : CommandTypes) → Read s t end command_types h → CommandTypesTrue h
  unfolding command_types
  command_types_true = from (search (value_rules, true_command_types, input_true) depth 24)

  -- an attribute's privileges
  pub data AccessTrue (a : Access) : Type 0 where
    true_access : WordTrue s t end a.operation → a.granted < 2 ^ 2 → AccessTrue a

  operation_true : (w : Word) → Read s t end (any_keyword (ascii "read" ∷ ascii "write" ∷ [])) w → WordTrue s t end w
  operation_true = from (gives_any_keyword _)

  pub data PrivilegesTrue (p : Privileges) : Type 0 where
    true_privileges : p.read < 2 ^ 2 → p.write < 2 ^ 2 → PrivilegesTrue p

  gives_access_entry : Gives s t end AccessTrue access_entry
  unfolding access_entry
  gives_access_entry = search (value_rules, true_access, operation_true, privilege_true) depth 24

  separated_true : {A : Type 0} {R : A → Type 0} {p : Parser (Unit {0})} {m : Parser A} → OnChain p → OnChain m → Gives s t end R m → (l : List A) → Read s t end (separated_list0 p m) l → All R l
  unfolding separated_list0
  separated_true w v g =
      from (gives_catch (gives_bind (walks v) (λ a. onward_bind (walks (chain_many0 (chain_then w v))) λ l. onward_ret _) λ a h. gives_bind (walks (chain_many0 (chain_then w v))) (λ l. onward_ret _) λ l k. gives_ret (a ∷ l) (g.holds a h, (gives_many0 (walks (chain_then w v)) (gives_then (walks w) g)).holds l k)) (λ p i. gives_ret [] tt))

  accesses_true : (l : List Access) → Read s t end (separated_list0 comma access_entry) l → All AccessTrue l
  accesses_true = separated_true (chain_local comma_local) (chain_inside access_entry_inside) gives_access_entry

  gives_access_list : Gives s t end (All AccessTrue) access_list
  unfolding access_list
  gives_access_list = search (value_rules, accesses_true) depth 24

  listed_true : (o : Option (List Access)) → Maybe (All AccessTrue) o → All AccessTrue (listed o)
  unfolding listed
  listed_true none h = tt
  listed_true (some l) h = h

  granted_less : {a : Access} → AccessTrue a → a.granted < 2 ^ 2
  granted_less (true_access w p) = p

  gives_granted : (p : Privileges) (l : List Access) → PrivilegesTrue p → All AccessTrue l → Gives s t end PrivilegesTrue (granted_by p l)
  unfolding granted_by
  gives_granted p [] q h = gives_ret p q
  gives_granted p (a ∷ l) (true_privileges r w) h =
      gives_pick _ (gives_granted _ l (true_privileges g w) h.1) (gives_pick _ (gives_granted _ l (true_privileges r g) h.1) (gives_stop _ _))
    where
      g : a.granted < 2 ^ 2
      g = granted_less h.0

  onward_granted : (p : Privileges) (l : List Access) → Onward (granted_by p l)
  unfolding granted_by
  onward_granted p [] = onward_ret p
  onward_granted p (a ∷ l) = onward_pick _ (onward_granted _ l) (onward_pick _ (onward_granted _ l) (onward_stop _ _))

  pub accesses_listed : (o : Option (List Access)) → Read s t end (opt access_list) o → All AccessTrue (listed o)
  accesses_listed o h = listed_true o ((gives_opt gives_access_list).holds o h)

  privileges_true : (p : Privileges) → Read s t end attribute_access p → PrivilegesTrue p
  unfolding attribute_access default_privileges
  privileges_true = from (gives_bind (walks (chain_opt (chain_inside access_list_inside))) (λ o. onward_granted _ (listed o)) λ o h. gives_granted _ (listed o) (true_privileges (lit< tt) (lit< tt)) (accesses_listed o h))

  pub data AttributeTrue (a : Attribute) : Type 0 where
    true_attribute : DocTrue s t end a.doc → a.maturity < 2 ^ 2 → a.flags < 2 ^ 4 → PrivilegesTrue a.privileges → StructFieldTrue a.field → AttributeTrue a

  -- clusters
  abbrev pub MemberTrue : Member → Type 0
  MemberTrue (revision n) = NumberTrue n
  MemberTrue (bitmap c) = ChoiceTrue c
  MemberTrue (enum c) = ChoiceTrue c
  MemberTrue (struct x) = StructTrue x
  MemberTrue (attribute a) = AttributeTrue a
  MemberTrue (command c) = CommandTrue c
  MemberTrue (event e) = EventTrue e

  pub data ClusterTrue (c : Cluster) : Type 0 where
    true_cluster : DocTrue s t end c.doc → c.maturity < 2 ^ 2 → WordTrue s t end c.name → c.code < 2 ^ 64 → All MemberTrue c.members → ClusterTrue c

  gives_revision : Gives s t end MemberTrue parse_revision
  unfolding parse_revision
  gives_revision = search value_rules depth 12

  data ClusterHeadTrue (h : ClusterHead) : Type 0 where
    true_cluster_head : WordTrue s t end h.id → h.number < 2 ^ 64 → ClusterHeadTrue h

  cluster_head_true : (h : ClusterHead) → Read s t end cluster_head h → ClusterHeadTrue h
  unfolding cluster_head
  cluster_head_true = from (search (value_rules, true_cluster_head) depth 24)

  -- declarations after a doc comment and a maturity
  module _ (d : Doc) (m : ℕ) (doc : DocTrue s t end d) (mature : m < 2 ^ 2) where
    choice_of : (h : ChoiceHead) (l : List Entry) → ChoiceHeadTrue h → All EntryTrue l → ChoiceTrue (record { shared = h.head_shared; doc = d; maturity = m; name = h.head_name; base = h.head_base; entries = l })
    choice_of h l (true_choice_head n b) e = true_choice doc mature n b e

    choice_true : (k : List ℕ) (c : Choice) → Read s t end (choice_after_doc_maturity k d m) c → ChoiceTrue c
    unfolding choice_after_doc_maturity
    choice_true k = from (search (value_rules, choice_of, choice_head_true k, entries_true) depth 12)

    struct_of : (h : StructHead) (l : List StructField) → StructHeadTrue h → All StructFieldTrue l → StructTrue (record { doc = d; maturity = m; struct_type = h.head_type; fabric_scoped = h.head_scoped; name = h.head_name; fields = l })
    struct_of h l (true_struct_head x y n) f = true_struct doc mature x y n f

    struct_true : (x : Struct) → Read s t end (parse_struct_after_doc_maturity d m) x → StructTrue x
    unfolding parse_struct_after_doc_maturity
    struct_true = from (search (value_rules, struct_of, struct_head_true, fields_true) depth 12)

    event_of : (h : EventHead) (l : List StructField) → EventHeadTrue h → All StructFieldTrue l
        → EventTrue (record { doc = d; maturity = m; fabric_sensitive = h.sensitive; priority = h.rank; access = h.privilege; name = h.id; code = h.number; fields = l })
    event_of h l (true_event_head x y z n c) f = true_event doc mature x y z n c f

    event_true : (e : Event) → Read s t end (parse_event_after_doc_maturity d m) e → EventTrue e
    unfolding parse_event_after_doc_maturity
    event_true = from (search (value_rules, event_of, event_head_true, fields_true) depth 12)

    command_of : (h : CommandHead) (k : CommandTypes) (c : ℕ) → CommandHeadTrue h → CommandTypesTrue k → c < 2 ^ 64
        → CommandTrue (record { doc = d; maturity = m; flags = h.qualities; access = h.privilege; name = h.id; input = k.from; output = k.to; code = c })
    command_of h k c (true_command_head x y n) (true_command_types i o) z = true_command doc mature x y n i o z

    command_true : (c : Command) → Read s t end (parse_command_after_doc_maturity d m) c → CommandTrue c
    unfolding parse_command_after_doc_maturity
    command_true = from (search (value_rules, command_of, command_head_true, command_types_true) depth 16)

    attribute_true : (a : Attribute) → Read s t end (parse_attribute_after_doc_maturity d m) a → AttributeTrue a
    unfolding parse_attribute_after_doc_maturity
    attribute_true = from (search (value_rules, true_attribute, attribute_flags, privileges_true, struct_field_true) depth 16)

    gives_member : Gives s t end MemberTrue (member_tries d m)
    unfolding member_tries parse_bitmap_after_doc_maturity parse_enum_after_doc_maturity
    gives_member = search (gives_rules, gives_revision, choice_true (ascii "bitmap"), choice_true (ascii "enum"), struct_true, attribute_true, command_true, event_true) depth 20

  member_true : (x : Member) → Read s t end parse_cluster_member x → MemberTrue x
  unfolding parse_cluster_member
  member_true = from (search (value_rules, gives_member) depth 12)

  members_true : (l : List Member) → Read s t end (braces cluster_members) l → All MemberTrue l
  unfolding cluster_members
  members_true = list_true (chain_inside parse_cluster_member_inside) member_true

  cluster_of : (d : Doc) (m : ℕ) (h : ClusterHead) (l : List Member) → DocTrue s t end d → m < 2 ^ 2 → ClusterHeadTrue h → All MemberTrue l → ClusterTrue (record { doc = d; maturity = m; name = h.id; code = h.number; members = l })
  cluster_of d m h l doc mature (true_cluster_head n c) k = true_cluster doc mature n c k

  cluster_true : (c : Cluster) → Read s t end parse_cluster c → ClusterTrue c
  unfolding parse_cluster cluster_after_doc_maturity cluster_members
  cluster_true = from (search (value_rules, cluster_of, cluster_head_true, members_true) depth 16)

  -- endpoints
  pub data DeviceTrue (x : DeviceType) : Type 0 where
    true_device : WordTrue s t end x.name → x.code < 2 ^ 64 → x.version < 2 ^ 64 → DeviceTrue x

  version_true : (n : ℕ) → Read s t end device_version n → n < 2 ^ 64
  unfolding device_version
  version_true = from (search value_rules depth 12)

  device_true : (x : DeviceType) → Read s t end device_type x → DeviceTrue x
  unfolding device_type
  device_true = from (search (value_rules, true_device, two_keywords_name_true, version_true) depth 12)

  abbrev pub DefaultTrue : Default → Type 0
  DefaultTrue (number n) = NumberTrue n
  DefaultTrue (signed_number z) = InRange z
  DefaultTrue (truth z) = Unit {0}
  DefaultTrue (text x) = SpanTrue s t end x

  gives_value : Gives s t end DefaultTrue value_tries
  unfolding value_tries
  gives_value =
      gives_or (gives_mapped number λ n h. integer_true h) (gives_or (gives_mapped signed_number λ z h. signed_true h) (gives_or (gives_last _ (truth true) tt) (gives_or (gives_last _ (truth false) tt) (gives_mapped text λ x h. default_string_true h))))

  default_true : (o : Option Default) → Read s t end (opt (whitespace1 >> default_attribute_value)) o → Maybe DefaultTrue o
  unfolding default_attribute_value
  default_true = from (gives_opt (search (value_rules, gives_value) depth 12))

  pub data AttributeInstanceTrue (a : AttributeInstance) : Type 0 where
    true_attribute_instance : a.handling < 2 ^ 2 → WordTrue s t end a.name → Maybe DefaultTrue a.default → AttributeInstanceTrue a

  handling_true : (n : ℕ) → Read s t end attribute_handling_type n → n < 2 ^ 2
  unfolding attribute_handling_type
  handling_true = from (search (gives_rules, onward_rules) depth 12)

  attribute_instance_true : (a : AttributeInstance) → Read s t end attribute_instantiation a → AttributeInstanceTrue a
  unfolding attribute_instantiation
  attribute_instance_true = from (search (value_rules, true_attribute_instance, handling_true, default_true) depth 16)

  abbrev pub InstanceTrue : Instance → Type 0
  InstanceTrue (attribute_instance a) = AttributeInstanceTrue a
  InstanceTrue (command_instance n) = WordTrue s t end n
  InstanceTrue (event_instance n) = WordTrue s t end n

  -- tries that keep the furthest place
  gives_intercept : {A : Type 0} {R : A → Type 0} {m : Parser A} {k : ℕ → Parser (Tried A)} (q : ℕ) → Gives s t end R m → ((q : ℕ) → Gives s t end (λ x. R x.value) (k q)) → Gives s t end (λ x. R x.value) (intercept q m k)
  unfolding intercept
  gives_intercept q v w = gives_catch (gives_mapped _ v.holds) (λ p i. w _)

  all_more : {A : Type 0} (R : A → Type 0) (l : List A) (a : A) → All R l → R a → All R (l ++ (a ∷ []))
  all_more R [] a h k = (k, tt)
  all_more R (x ∷ l) a h k = (h.0, all_more R l a h.1 k)

  deep_true : {A : Type 0} (R : A → Type 0) (f : ℕ → Parser (Tried A)) → ((q : ℕ) → LocalInside (f q)) → ((q : ℕ) → Consumes (f q)) → ((q : ℕ) → Gives s t end (λ x. R x.value) (f q)) → (l : List A) → Read s t end (deep_braces f) l → All R l
  unfolding deep_braces deep_run deep_step deeper
  deep_true {A} R f i w v = from (gives_mapped _ (enclosed_true deep_place (walks (chain_inside (deep_run_inside i w))) run))
    where
      step : (x : Deep A) → All R x.read → Gives s t end (λ (y : Deep A). All R y.read) (deep_step f x)
      step x k = gives_then (walks whitespace0_chain) (gives_mapped _ λ y h. all_more R x.read y.value k ((v _).holds y h))

      step_chain : (x : Deep A) → OnChain (deep_step f x)
      step_chain x = chain_then whitespace0_chain (chain_inside (mapped_inside _ (i _)))

      run : (y : Deep A) → Read s t end (deep_run f) y → All R y.read
      run = from (gives_bind (walks chain_position) (λ b. walks (chain_iter deeper step_chain _)) λ b h. gives_iter (λ (y : Deep A). All R y.read) (deep_step f) deeper (λ x. walks (step_chain x)) step (λ p x i k. k) _ tt)

  gives_instance : (q : ℕ) → Gives s t end (λ x. InstanceTrue x.value) (instance_tries q)
  unfolding instance_tries
  gives_instance q =
      gives_intercept q (gives_mapped _ attribute_instance_true) λ q.
      gives_intercept q (gives_mapped _ (named_after_true _ _)) λ q.
      gives_intercept q (gives_mapped _ (named_after_true _ _)) λ q.
      gives_fail q

  pub data InstantiationTrue (i : Instantiation) : Type 0 where
    true_instantiation : WordTrue s t end i.name → All InstanceTrue i.instances → InstantiationTrue i

  instances_true : (l : List Instance) → Read s t end (deep_braces instance_tries) l → All InstanceTrue l
  instances_true = deep_true InstanceTrue instance_tries instance_tries_inside instance_tries_consumes gives_instance

  instantiation_head_true : (w : Word) → Read s t end instantiation_head w → WordTrue s t end w
  unfolding instantiation_head
  instantiation_head_true = from (search (value_rules, two_keywords_name_true) depth 8)

  instantiation_true : (i : Instantiation) → Read s t end cluster_instantiation i → InstantiationTrue i
  unfolding cluster_instantiation
  instantiation_true = from (search (value_rules, true_instantiation, instantiation_head_true, instances_true) depth 8)

  abbrev pub PartTrue : Part → Type 0
  PartTrue (device x) = DeviceTrue x
  PartTrue (binding n) = WordTrue s t end n
  PartTrue (instantiation i) = InstantiationTrue i

  gives_part : (q : ℕ) → Gives s t end (λ x. PartTrue x.value) (part_tries q)
  unfolding part_tries
  gives_part q =
      gives_intercept q (gives_mapped _ device_true) λ q.
      gives_intercept q (gives_mapped _ (from (gives_then (walks whitespace0_chain) (given (named_after_true _ _))))) λ q.
      gives_intercept q (gives_mapped _ instantiation_true) λ q.
      gives_fail q

  pub data EndpointTrue (e : Endpoint) : Type 0 where
    true_endpoint : e.id < 2 ^ 64 → All PartTrue e.parts → EndpointTrue e

  parts_true : (l : List Part) → Read s t end (deep_braces part_tries) l → All PartTrue l
  parts_true = deep_true PartTrue part_tries part_tries_inside part_tries_consumes gives_part

  endpoint_head_true : (n : ℕ) → Read s t end endpoint_head n → n < 2 ^ 64
  unfolding endpoint_head
  endpoint_head_true = from (search value_rules depth 8)

  endpoint_true : (e : Endpoint) → Read s t end endpoint e → EndpointTrue e
  unfolding endpoint
  endpoint_true = from (search (value_rules, true_endpoint, endpoint_head_true, parts_true) depth 8)

  -- items
  abbrev pub ItemTrue : Item → Type 0
  ItemTrue (cluster_item c) = ClusterTrue c
  ItemTrue (endpoint_item e) = EndpointTrue e
  ItemTrue (enum_item c) = ChoiceTrue c
  ItemTrue (bitmap_item c) = ChoiceTrue c
  ItemTrue (struct_item x) = StructTrue x
  ItemTrue blank_item = Unit {0}

  after_doc : {A : Type 0} {R : A → Type 0} {f : Doc → ℕ → Parser A} → ((d : Doc) (m : ℕ) → Onward (f d m)) → ((d : Doc) (m : ℕ) → DocTrue s t end d → m < 2 ^ 2 → (a : A) → Read s t end (f d m) a → R a) → (a : A) → Read s t end (with_doc_maturity f) a → R a
  unfolding with_doc_maturity
  after_doc w v =
      from
      (gives_bind blank (λ d. onward_then blank (onward_bind maturity λ m. onward_then blank (w d m))) λ d h.
      gives_then blank
      (gives_bind maturity (λ m. onward_then blank (w d m)) λ m k.
      gives_then blank (given (v d m (doc_true h) (maturity_true m k)))))
    where
      blank : Onward whitespace0
      blank = walks whitespace0_chain

      maturity : Onward api_maturity
      maturity = walks (chain_local api_maturity_local)

  item_gives : Gives s t end ItemTrue item
  unfolding item parse_enum_after_doc_maturity parse_bitmap_after_doc_maturity
  item_gives =
      gives_or (gives_mapped _ cluster_true)
      (gives_or (gives_mapped _ endpoint_true)
      (gives_or (gives_mapped _ (after_doc (λ d m. walks (chain_local (choice_after_doc_maturity_local _ d m))) λ d m h k. choice_true d m h k (ascii "enum")))
      (gives_or (gives_mapped _ (after_doc (λ d m. walks (chain_local (choice_after_doc_maturity_local _ d m))) λ d m h k. choice_true d m h k (ascii "bitmap")))
      (gives_or (gives_mapped _ (after_doc (λ d m. walks (chain_local (parse_struct_local d m))) struct_true)) (gives_last _ blank_item tt)))))

  -- every item that is read from the part
  pub item_true : {b c : ℕ} {u r : List ℕ} {i : Item} → Rest s t b u → item b u ≡ ok i c r → c ≤ end → ItemTrue i
  item_true {b} {c} {u} {r} {i} h e k = item_gives.holds i (record { base = b; rest = u; stands = h; next = c; left = r; reads = e; before = k })
