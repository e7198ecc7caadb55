-- Marking every record of an item by a search of the records before gives the records that hoisting defines.
use Prim.Native.Nat.{ℕ, ◌^◌, ◌/◌, ◌<◌}
use mathlib.Core.Path.{◌≡◌, refl, sym, ◌∙◌, ap}
use mathlib.Core.Bool.{Bool, true, false}
use mathlib.Core.List.{List, [], ◌∷◌, ◌++◌, map, map-append, append_assoc, append-nil}
use native.Mathlib.Omega.{arith}
use Rattle.lexing.specs.words.{Word, bytes_of}
use Rattle.lexing.specs.word_sets.{bit}
use Rattle.items.specs.entries.{Annotation, Entry, Choice}
use Rattle.items.specs.structs.{StructType, regular, request, response, shared, StructField, Struct}
use Rattle.items.specs.members.{Attribute, Command, Event}
use Rattle.items.specs.clusters.{Member, revision, bitmap, enum, struct, attribute, command, event}
use Rattle.items.specs.endpoints.{Instance, attribute_instance, command_instance, event_instance, Part, device, binding, instantiation}
use Rattle.items.specs.items.{Item, cluster_item, endpoint_item, enum_item, bitmap_item, struct_item, blank_item}
use Rattle.items.specs.records.{bits, value, spanned, Record, response_of, flag, word_extent, plain, documented, annotation_record, entry_record, entry_records, choice_records, field_record, struct_number, struct_records, attribute_records, command_record, event_records, member_records, cluster_records, instance_record, part_records, endpoint_records, item_records}
use Rattle.lexing.specs.buffers.{each}
use Rattle.items.specs.layout.{packed, width, from_top}
use Rattle.items.specs.answers.items.{unhoisted_item}
use Rattle.lexing.proofs.Truth.{All, WordTrue}
use Rattle.items.proofs.Truth.{ChoiceTrue, true_choice, StructTrue, true_struct, MemberTrue, true_cluster, ItemTrue}
use Rattle.matter_idl.specs.hoisting.{Tables, no_ids, held, mark, choice_id, struct_id, is_shared, place_by, after_item, after_items, hoisted}
use Rattle.matter_idl.specs.demand_3.{has_global, with_place}
use Rattle.matter_idl.specs.inner.hoisting.{flags_shared, is_unmarked, mark_after, new_place, marked}
use Rattle.matter_idl.proofs.hoisting.Search.{Kind, enums, bitmaps, structs, number_of, table_of, name_is, by_search}

cons_same : {A : Type 0} {a b : A} {k l : List A} → a ≡ b → k ≡ l → a ∷ k ≡ b ∷ l
cons_same e f = cc

-- where f changes no element
map_kept : {A B : Type 0} (f : B → B) (g : A → B) → ((a : A) → f (g a) ≡ g a) → (l : List A) → map f (map g l) ≡ map g l
map_kept f g h [] = refl
map_kept f g h (a ∷ l) = rw (h a, map_kept f g h l) refl

each_kept : {A B : Type 0} (f : B → B) (g : A → List B) → ((a : A) → map f (g a) ≡ g a) → (l : List A) → map f (each g l) ≡ each g l
unfolding each
each_kept f g h [] = refl
each_kept f g h (a ∷ l) = map-append f (g a) (each g l) ∙ rw (h a, each_kept f g h l) refl

each_mapped : {A B : Type 0} (Q : A → Type 0) (f : B → B) (g k : A → List B) → ((a : A) → Q a → map f (g a) ≡ k a) → (l : List A) → All Q l → map f (each g l) ≡ each k l
unfolding each
each_mapped Q f g k h [] q = refl
each_mapped Q f g k h (a ∷ l) q = map-append f (g a) (each g l) ∙ rw (h a q.0, each_mapped Q f g k h l q.1) refl

-- the flags of a struct begin with its type
struct_flags : (m s : ℕ) → s < 2 ^ 1 → from_top 7 (bits 2 m ∷ bits 1 s ∷ []) / 2 ^ 5 ≡ m
unfolding from_top packed width
struct_flags m s h = omega arith

module _ (text : List ℕ) (n : ℕ) (before : List Record) (t : Tables) (agree : (K : Kind) (i : List ℕ) → held i (table_of K t) ≡ has_global text (number_of K) i before) where
  abbrev Marked : Record → Record
  Marked r = marked text before r

  annotation_kept : (a : Annotation) → Marked (annotation_record a) ≡ annotation_record a
  unfolding marked new_place is_unmarked flags_shared with_place annotation_record plain
  annotation_kept a = refl

  entry_kept : (e : Entry) → map Marked (entry_records e) ≡ entry_records e
  unfolding marked new_place is_unmarked flags_shared with_place entry_records entry_record plain
  entry_kept e = cons_same refl (map_kept Marked annotation_record annotation_kept e.annotations)

  entries_kept : (l : List Entry) → map Marked (each entry_records l) ≡ each entry_records l
  entries_kept = each_kept Marked entry_records entry_kept

  field_kept : (f : StructField) → Marked (field_record f) ≡ field_record f
  unfolding marked new_place is_unmarked flags_shared with_place field_record plain
  field_kept f = refl

  attribute_kept : (a : Attribute) → map Marked (attribute_records a) ≡ attribute_records a
  unfolding marked new_place is_unmarked flags_shared with_place attribute_records field_record documented plain
  attribute_kept a = refl

  command_kept : (c : Command) → Marked (command_record c) ≡ command_record c
  unfolding marked new_place is_unmarked flags_shared with_place command_record documented
  command_kept c = refl

  event_kept : (e : Event) → map Marked (event_records e) ≡ event_records e
  unfolding marked new_place is_unmarked flags_shared with_place event_records documented
  event_kept e = cons_same refl (map_kept Marked field_record field_kept e.fields)

  instance_kept : (i : Instance) → Marked (instance_record i) ≡ instance_record i
  unfolding marked new_place is_unmarked flags_shared with_place instance_record plain
  instance_kept (attribute_instance a) = refl
  instance_kept (command_instance w) = refl
  instance_kept (event_instance w) = refl

  part_kept : (p : Part) → map Marked (part_records p) ≡ part_records p
  unfolding marked new_place is_unmarked flags_shared with_place part_records plain
  part_kept (device d) = refl
  part_kept (binding w) = refl
  part_kept (instantiation i) = cons_same refl (map_kept Marked instance_record instance_kept i.instances)

  -- a type's mark
  marks : (K : Kind) (w : Word) → WordTrue 0 text n w → mark_after text before (number_of K) (word_extent w) ≡ mark (table_of K t) true (bytes_of w)
  unfolding mark_after mark
  marks K w h = ap (λ (i : List ℕ). elim (has_global text (number_of K) i before) [ true ↦ 2 | false ↦ 1 ]) (name_is text n w h) ∙ ap (λ (b : Bool). elim b [ true ↦ 2 | false ↦ 1 ]) (sym (agree K (bytes_of w)))

  module _ (K : Kind) (k : ℕ) (e : k ≡ number_of K) (on : flags_shared k (from_top 7 (flag true ∷ [])) ≡ true) (off : flags_shared k (from_top 7 (flag false ∷ [])) ≡ false) (c : Choice) where
    choice_place : ChoiceTrue 0 text n c → (s : Bool) → elim (is_unmarked k 0 (from_top 7 (flag s ∷ []))) [ true ↦ mark_after text before k (word_extent c.name) | false ↦ 0 ] ≡ mark (table_of K t) s (choice_id c)
    unfolding is_unmarked mark choice_id
    choice_place (true_choice d m w b l) true = rw (on, e) (marks K c.name w)
    choice_place h false = rw off refl

    choice_marked : ChoiceTrue 0 text n c → map Marked (choice_records k 0 c) ≡ choice_records k (mark (table_of K t) c.shared (choice_id c)) c
    unfolding marked new_place with_place choice_records documented
    choice_marked h = cons_same (ap (λ p. documented k p c.maturity c.doc (flag c.shared ∷ []) (word_extent c.name) 0 0 (spanned (word_extent c.base) ∷ [])) (choice_place h c.shared)) (entries_kept c.entries)

  struct_place : (s : Struct) → StructTrue 0 text n s → (y : StructType)
      → elim (is_unmarked 5 0 (from_top 7 (bits 2 (struct_number y) ∷ bits 1 s.fabric_scoped ∷ []))) [ true ↦ mark_after text before 5 (word_extent s.name) | false ↦ 0 ] ≡ mark t.structs (is_shared y) (struct_id s)
  unfolding is_unmarked flags_shared mark struct_id struct_number is_shared table_of number_of
  struct_place s (true_struct d m r q w f) regular = rw (struct_flags 0 s.fabric_scoped q) refl
  struct_place s (true_struct d m r q w f) request = rw (struct_flags 1 s.fabric_scoped q) refl
  struct_place s (true_struct d m r q w f) (response c) = rw (struct_flags 2 s.fabric_scoped q) refl
  struct_place s (true_struct d m r q w f) shared = rw (struct_flags 3 s.fabric_scoped q) (marks structs s.name w)

  struct_marked : (s : Struct) → StructTrue 0 text n s → map Marked (struct_records 0 s) ≡ struct_records (mark t.structs (is_shared s.struct_type) (struct_id s)) s
  unfolding marked new_place with_place struct_records documented
  struct_marked s h = cons_same (ap (λ p. documented 5 p s.maturity s.doc (bits 2 (struct_number s.struct_type) ∷ bits 1 s.fabric_scoped ∷ []) (word_extent s.name) 0 0 (value (response_of s.struct_type) ∷ [])) (struct_place s h s.struct_type)) (map_kept Marked field_record field_kept s.fields)

  member_marked : (m : Member) → MemberTrue 0 text n m → map Marked (member_records (λ x. 0) m) ≡ member_records (place_by t) m
  unfolding member_records place_by table_of number_of flags_shared from_top packed width flag bit
  member_marked (revision z) h = refl
  member_marked (bitmap c) h = choice_marked bitmaps 3 refl refl refl c h
  member_marked (enum c) h = choice_marked enums 2 refl refl refl c h
  member_marked (struct s) h = struct_marked s h
  member_marked (attribute a) h = attribute_kept a
  member_marked (command c) h = cons_same (command_kept c) refl
  member_marked (event e) h = event_kept e

  -- a type at the top keeps its mark
  choice_kept : (k : ℕ) (c : Choice) → map Marked (choice_records k 1 c) ≡ choice_records k 1 c
  unfolding marked new_place is_unmarked with_place choice_records documented
  choice_kept k c = cons_same refl (entries_kept c.entries)

  struct_kept : (s : Struct) → map Marked (struct_records 1 s) ≡ struct_records 1 s
  unfolding marked new_place is_unmarked with_place struct_records documented
  struct_kept s = cons_same refl (map_kept Marked field_record field_kept s.fields)

  parts_kept : (l : List Part) → map Marked (each part_records l) ≡ each part_records l
  parts_kept = each_kept Marked part_records part_kept

  item_marked : (i : Item) → ItemTrue 0 text n i → map Marked (unhoisted_item i) ≡ item_records 1 (place_by t) i
  unfolding item_records cluster_records endpoint_records documented plain marked new_place is_unmarked flags_shared with_place
  item_marked (cluster_item c) (true_cluster d m w z l) = cons_same refl (each_mapped (MemberTrue 0 text n) Marked (member_records (λ x. 0)) (member_records (place_by t)) member_marked c.members l)
  item_marked (endpoint_item e) h = cons_same refl (parts_kept e.parts)
  item_marked (enum_item c) h = choice_kept 2 c
  item_marked (bitmap_item c) h = choice_kept 3 c
  item_marked (struct_item s) h = struct_kept s
  item_marked blank_item h = refl

-- hoisting goes on with the tables of the items before, and one item more
pub hoisted_append : (t : Tables) (k l : List Item) → hoisted t (k ++ l) ≡ hoisted t k ++ hoisted (after_items t k) l
unfolding hoisted after_items
hoisted_append t [] l = refl
hoisted_append t (x ∷ k) l = rw (hoisted_append (after_item t x) k l) (sym (append_assoc (item_records 1 (place_by t) x) _ _))

pub hoisted_more : (t : Tables) (l : List Item) (i : Item) → hoisted t (l ++ (i ∷ [])) ≡ hoisted t l ++ item_records 1 (place_by (after_items t l)) i
unfolding hoisted
hoisted_more t l i = hoisted_append t l (i ∷ []) ∙ ap (λ x. hoisted t l ++ x) (append-nil _)

pub marking : (text : List ℕ) (n : ℕ) (l : List Item) (i : Item) → All (ItemTrue 0 text n) l → ItemTrue 0 text n i → hoisted no_ids l ++ map (marked text (hoisted no_ids l)) (unhoisted_item i) ≡ hoisted no_ids (l ++ (i ∷ []))
marking text n l i h k = ap (λ x. hoisted no_ids l ++ x) (item_marked text n (hoisted no_ids l) (after_items no_ids l) (λ K j. by_search text n j K l h) i k) ∙ sym (hoisted_more no_ids l i)
