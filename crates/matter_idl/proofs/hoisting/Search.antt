-- A table holds an id exactly if a search of the records before finds it.
use Prim.Native.Nat.{ℕ, zero, suc}
use mathlib.Core.Path.{◌≡◌, refl, sym, ◌∙◌, ap}
use mathlib.Core.Bool.{Bool, true, false, ◌&&◌, ◌||◌}
use mathlib.Core.List.{List, [], ◌∷◌, ◌++◌, map}
use native.Mathlib.Omega.{arith}
use lib.Dec.{eqb}
use borrow.Author.Tests.{ne_eqb}
use Rattle.lexing.specs.words.{Word, bytes_of}
use Rattle.lexing.specs.word_sets.{same_bytes}
use Rattle.items.specs.entries.{Entry, Choice}
use Rattle.items.specs.structs.{StructField, Struct}
use Rattle.items.specs.members.{Event, Command, Attribute}
use Rattle.items.specs.clusters.{Member, revision, bitmap, enum, struct, attribute, command, event}
use Rattle.items.specs.endpoints.{Instance, attribute_instance, command_instance, event_instance, Part, device, binding, instantiation}
use Rattle.items.specs.items.{Item, cluster_item, endpoint_item, enum_item, bitmap_item, struct_item, blank_item}
use Rattle.items.specs.records.{Record, plain, documented, annotation_record, entry_record, entry_records, choice_records, field_record, struct_records, attribute_records, command_record, event_records, member_records, cluster_records, instance_record, part_records, endpoint_records, item_records, word_extent}
use Rattle.lexing.specs.buffers.{each}
use Rattle.lexing.proofs.Truth.{All, WordTrue}
use Rattle.items.proofs.Truth.{ChoiceTrue, true_choice, StructTrue, true_struct, MemberTrue, true_cluster, ItemTrue}
use Rattle.items.proofs.RecordsFit.{name_whole}
use Rattle.matter_idl.specs.hoisting.{Tables, no_ids, held, mark, join, choice_id, struct_id, is_shared, place_by, after_member, after_members, after_item, after_items, hoisted}
use Rattle.matter_idl.specs.demand_3.{bytes_at, is_global, has_global}

or_nil : (a : Bool) → (a || false) ≡ a
or_nil true = refl
or_nil false = refl

or_assoc : (a b c : Bool) → ((a || b) || c) ≡ (a || (b || c))
or_assoc true b c = refl
or_assoc false b c = refl

or_swap : (a b : Bool) → (a || b) ≡ (b || a)
or_swap true true = refl
or_swap true false = refl
or_swap false true = refl
or_swap false false = refl

pub and_nil : (a : Bool) → (a && false) ≡ false
and_nil true = refl
and_nil false = refl

-- where nothing joins
same_held : (a b : Bool) → b ≡ false → a ≡ (a || b)
same_held a b e = sym (ap (λ c. a || c) e ∙ or_nil a)

-- the three kinds with a table
pub data Kind : Type 0 where
  enums bitmaps structs : Kind

unfoldable pub number_of : Kind → ℕ
number_of enums = 2
number_of bitmaps = 3
number_of structs = 5

unfoldable pub table_of : Kind → Tables → List (List ℕ)
table_of enums t = t.enums
table_of bitmaps t = t.bitmaps
table_of structs t = t.structs

unfoldable with_table : Kind → List (List ℕ) → Tables → Tables
with_table enums l t = record { enums = l; bitmaps = t.bitmaps; structs = t.structs }
with_table bitmaps l t = record { enums = t.enums; bitmaps = l; structs = t.structs }
with_table structs l t = record { enums = t.enums; bitmaps = t.bitmaps; structs = l }

join_held : (i : List ℕ) (p : ℕ) (j : List ℕ) (t : List (List ℕ)) → held i (join p j t) ≡ (held i t || (eqb p 1 && same_bytes i j))
unfolding join held
join_held i zero j t = sym (or_nil (held i t))
join_held i (suc zero) j t = or_swap (same_bytes i j) (held i t)
join_held i (suc (suc p)) j t = same_held _ _ (ap (λ b. b && same_bytes i j) (ne_eqb (suc (suc p)) 1 λ e. omega arith))

-- an id with a mark joins the table of kind J: what that is to the table of kind K
joins : (i : List ℕ) (J K : Kind) (p : ℕ) (j : List ℕ) (t : Tables) → held i (table_of K (with_table J (join p j (table_of J t)) t)) ≡ (held i (table_of K t) || (eqb p 1 && (eqb (number_of J) (number_of K) && same_bytes i j)))
unfolding table_of with_table number_of
joins i enums enums p j t = join_held i p j t.enums
joins i enums bitmaps p j t = same_held _ _ (and_nil (eqb p 1))
joins i enums structs p j t = same_held _ _ (and_nil (eqb p 1))
joins i bitmaps enums p j t = same_held _ _ (and_nil (eqb p 1))
joins i bitmaps bitmaps p j t = join_held i p j t.bitmaps
joins i bitmaps structs p j t = same_held _ _ (and_nil (eqb p 1))
joins i structs enums p j t = same_held _ _ (and_nil (eqb p 1))
joins i structs bitmaps p j t = same_held _ _ (and_nil (eqb p 1))
joins i structs structs p j t = join_held i p j t.structs

module _ (text : List ℕ) (k : ℕ) (i : List ℕ) where
  found_append : (l m : List Record) → has_global text k i (l ++ m) ≡ (has_global text k i l || has_global text k i m)
  unfolding has_global
  found_append [] m = refl
  found_append (r ∷ l) m = rw (found_append l m) (sym (or_assoc (is_global text k i r) (has_global text k i l) (has_global text k i m)))

  -- records in their parents
  none_mapped : {A : Type 0} (f : A → Record) → ((a : A) → is_global text k i (f a) ≡ false) → (l : List A) → has_global text k i (map f l) ≡ false
  unfolding has_global
  none_mapped f h [] = refl
  none_mapped f h (a ∷ l) = rw (h a, none_mapped f h l)

  none_each : {A : Type 0} (f : A → List Record) → ((a : A) → has_global text k i (f a) ≡ false) → (l : List A) → has_global text k i (each f l) ≡ false
  unfolding has_global each
  none_each f h [] = refl
  none_each f h (a ∷ l) = rw (found_append (f a) (each f l), h a, none_each f h l)

  entry_none : (e : Entry) → has_global text k i (entry_records e) ≡ false
  unfolding has_global is_global entry_records entry_record plain
  entry_none e = none_mapped annotation_record (λ a. unfold is_global annotation_record plain in refl) e.annotations

  entries_none : (l : List Entry) → has_global text k i (each entry_records l) ≡ false
  entries_none = none_each entry_records entry_none

  fields_none : (l : List StructField) → has_global text k i (map field_record l) ≡ false
  fields_none = none_mapped field_record λ f. unfold is_global field_record plain in refl

  attribute_none : (a : Attribute) → has_global text k i (attribute_records a) ≡ false
  unfolding has_global is_global attribute_records field_record documented plain
  attribute_none a = refl

  command_none : (c : Command) → has_global text k i (command_record c ∷ []) ≡ false
  unfolding has_global is_global command_record documented
  command_none c = refl

  event_none : (e : Event) → has_global text k i (event_records e) ≡ false
  unfolding has_global is_global event_records documented
  event_none e = fields_none e.fields

  instance_none : (n : Instance) → is_global text k i (instance_record n) ≡ false
  unfolding is_global instance_record plain
  instance_none (attribute_instance a) = refl
  instance_none (command_instance n) = refl
  instance_none (event_instance n) = refl

  part_none : (p : Part) → has_global text k i (part_records p) ≡ false
  unfolding has_global is_global part_records plain
  part_none (device d) = refl
  part_none (binding n) = refl
  part_none (instantiation n) = none_mapped instance_record instance_none n.instances

  parts_none : (l : List Part) → has_global text k i (each part_records l) ≡ false
  parts_none = none_each part_records part_none

module _ (text : List ℕ) (n : ℕ) where
  pub name_is : (w : Word) → WordTrue 0 text n w → bytes_at text (word_extent w) ≡ bytes_of w
  unfolding bytes_at
  name_is w h = name_whole text n w h

  module _ (k : ℕ) (i : List ℕ) where
    choice_found : (j p : ℕ) (c : Choice) → ChoiceTrue 0 text n c → has_global text k i (choice_records j p c) ≡ (eqb p 1 && (eqb j k && same_bytes i (choice_id c)))
    unfolding has_global is_global choice_records documented choice_id
    choice_found j p c (true_choice d m w b e) = rw (entries_none text k i c.entries, name_is c.name w) (or_nil _)

    struct_found : (p : ℕ) (s : Struct) → StructTrue 0 text n s → has_global text k i (struct_records p s) ≡ (eqb p 1 && (eqb 5 k && same_bytes i (struct_id s)))
    unfolding has_global is_global struct_records documented struct_id
    struct_found p s (true_struct d m y q w f) = rw (fields_none text k i s.fields, name_is s.name w) (or_nil _)

  module _ (i : List ℕ) (K : Kind) where
    member_found : (t a : Tables) (m : Member) → MemberTrue 0 text n m → held i (table_of K (after_member t a m)) ≡ (held i (table_of K a) || has_global text (number_of K) i (member_records (place_by t) m))
    unfolding after_member member_records place_by with_table table_of number_of has_global
    member_found t a (revision z) h = sym (or_nil (held i (table_of K a)))
    member_found t a (enum c) h = joins i enums K (mark t.enums c.shared (choice_id c)) (choice_id c) a ∙ ap (λ b. held i (table_of K a) || b) (sym (choice_found (number_of K) i 2 (mark t.enums c.shared (choice_id c)) c h))
    member_found t a (bitmap c) h = joins i bitmaps K (mark t.bitmaps c.shared (choice_id c)) (choice_id c) a ∙ ap (λ b. held i (table_of K a) || b) (sym (choice_found (number_of K) i 3 (mark t.bitmaps c.shared (choice_id c)) c h))
    member_found t a (struct s) h = joins i structs K (mark t.structs (is_shared s.struct_type) (struct_id s)) (struct_id s) a ∙ ap (λ b. held i (table_of K a) || b) (sym (struct_found (number_of K) i (mark t.structs (is_shared s.struct_type) (struct_id s)) s h))
    member_found t a (attribute x) h = same_held _ _ (attribute_none text (number_of K) i x)
    member_found t a (command x) h = same_held _ _ (command_none text (number_of K) i x)
    member_found t a (event x) h = same_held _ _ (event_none text (number_of K) i x)

    -- what a part joins, and then the others
    joined : (a b c : Bool) (l m : List Record) → a ≡ (b || has_global text (number_of K) i l) → c ≡ (a || has_global text (number_of K) i m) → c ≡ (b || has_global text (number_of K) i (l ++ m))
    joined a b c l m e f = f ∙ ap (λ x. x || has_global text (number_of K) i m) e ∙ or_assoc b (has_global text (number_of K) i l) (has_global text (number_of K) i m) ∙ ap (λ x. b || x) (sym (found_append text (number_of K) i l m))

    members_found : (t a : Tables) (l : List Member) → All (MemberTrue 0 text n) l → held i (table_of K (after_members t a l)) ≡ (held i (table_of K a) || has_global text (number_of K) i (each (member_records (place_by t)) l))
    unfolding after_members each has_global
    members_found t a [] h = sym (or_nil (held i (table_of K a)))
    members_found t a (m ∷ l) h = joined (held i (table_of K (after_member t a m))) (held i (table_of K a)) _ (member_records (place_by t) m) (each (member_records (place_by t)) l) (member_found t a m h.0) (members_found t (after_member t a m) l h.1)

    item_found : (t : Tables) (x : Item) → ItemTrue 0 text n x → held i (table_of K (after_item t x)) ≡ (held i (table_of K t) || has_global text (number_of K) i (item_records 1 (place_by t) x))
    unfolding after_item item_records cluster_records endpoint_records documented plain with_table table_of number_of join has_global is_global
    item_found t (cluster_item c) (true_cluster d m w z l) = members_found t t c.members l
    item_found t (endpoint_item e) h = same_held _ _ (parts_none text (number_of K) i e.parts)
    item_found t (enum_item c) h = joins i enums K 1 (choice_id c) t ∙ ap (λ b. held i (table_of K t) || b) (sym (choice_found (number_of K) i 2 1 c h))
    item_found t (bitmap_item c) h = joins i bitmaps K 1 (choice_id c) t ∙ ap (λ b. held i (table_of K t) || b) (sym (choice_found (number_of K) i 3 1 c h))
    item_found t (struct_item s) h = joins i structs K 1 (struct_id s) t ∙ ap (λ b. held i (table_of K t) || b) (sym (struct_found (number_of K) i 1 s h))
    item_found t blank_item h = sym (or_nil (held i (table_of K t)))

    -- the table after items holds an id: it did before them, or a search of their records finds it
    items_found : (t : Tables) (l : List Item) → All (ItemTrue 0 text n) l → held i (table_of K (after_items t l)) ≡ (held i (table_of K t) || has_global text (number_of K) i (hoisted t l))
    unfolding after_items hoisted has_global
    items_found t [] h = sym (or_nil (held i (table_of K t)))
    items_found t (x ∷ l) h = joined (held i (table_of K (after_item t x))) (held i (table_of K t)) _ (item_records 1 (place_by t) x) (hoisted (after_item t x) l) (item_found t x h.0) (items_found (after_item t x) l h.1)

    none_held : (J : Kind) → held i (table_of J no_ids) ≡ false
    unfolding table_of no_ids held
    none_held enums = refl
    none_held bitmaps = refl
    none_held structs = refl

    pub by_search : (l : List Item) → All (ItemTrue 0 text n) l → held i (table_of K (after_items no_ids l)) ≡ has_global text (number_of K) i (hoisted no_ids l)
    by_search l h = items_found no_ids l h ∙ ap (λ b. b || has_global text (number_of K) i (hoisted no_ids l)) (none_held K)
