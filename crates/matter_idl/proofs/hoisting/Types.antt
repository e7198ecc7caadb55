-- Only types leave place 0, so what is marked 1 are types.
use Prim.Native.Nat.{ℕ}
use mathlib.Core.Path.{◌≡◌, refl}
use mathlib.Core.Bool.{Bool, true, false}
use mathlib.Core.Logic.{◌⊎◌, inl, inr}
use mathlib.Core.List.{List, [], ◌∷◌, map}
use native.Mathlib.Omega.{arith}
use lib.Dec.{eqb}
use Rattle.lexing.proofs.Tests.{eq_of}
use Rattle.items.specs.entries.{Entry, Choice}
use Rattle.items.specs.structs.{Struct, StructField}
use Rattle.items.specs.clusters.{Member, revision, bitmap, enum, struct, attribute, command, event}
use Rattle.items.specs.endpoints.{Instance, attribute_instance, command_instance, event_instance, Part, device, binding, instantiation}
use Rattle.items.specs.items.{Item, cluster_item, endpoint_item, enum_item, bitmap_item, struct_item, blank_item}
use Rattle.items.specs.records.{Record, plain, documented, annotation_record, entry_record, entry_records, choice_records, field_record, struct_records, attribute_records, command_record, event_records, member_records, cluster_records, instance_record, part_records, endpoint_records, item_records}
use Rattle.lexing.specs.buffers.{each}
use Rattle.items.proofs.RecordsFit.{all_append}
use Rattle.lexing.proofs.Truth.{All}
use Rattle.matter_idl.specs.hoisting.{Tables, place_by, after_item, hoisted}
use Rattle.matter_idl.specs.demand_3.{IsType, EachType, globals}

-- in its parent, or a type
abbrev Typed : Record → Type 0
Typed r = (r.place ≡ 0) ⊎ IsType r

typed_map : {A : Type 0} (f : A → Record) → ((a : A) → Typed (f a)) → (l : List A) → All Typed (map f l)
typed_map f h [] = tt
typed_map f h (a ∷ l) = (h a, typed_map f h l)

typed_each : {A : Type 0} (f : A → List Record) → ((a : A) → All Typed (f a)) → (l : List A) → All Typed (each f l)
unfolding each
typed_each f h [] = tt
typed_each f h (a ∷ l) = all_append Typed (f a) (each f l) (h a) (typed_each f h l)

fields_typed : (l : List StructField) → All Typed (map field_record l)
fields_typed = typed_map field_record λ f. unfold field_record plain in inl refl

entry_typed : (e : Entry) → All Typed (entry_records e)
unfolding entry_records entry_record plain
entry_typed e = (inl refl, typed_map annotation_record (λ a. unfold annotation_record plain in inl refl) e.annotations)

choice_typed : (k p : ℕ) → (k ≡ 2) ⊎ ((k ≡ 3) ⊎ (k ≡ 5)) → (c : Choice) → All Typed (choice_records k p c)
unfolding choice_records documented
choice_typed k p h c = (inr h, typed_each entry_records entry_typed c.entries)

struct_typed : (p : ℕ) (s : Struct) → All Typed (struct_records p s)
unfolding struct_records documented
struct_typed p s = (inr (inr (inr refl)), fields_typed s.fields)

member_typed : (place : Member → ℕ) (m : Member) → All Typed (member_records place m)
unfolding member_records attribute_records command_record event_records field_record documented plain
member_typed place (revision n) = tt
member_typed place (bitmap c) = choice_typed 3 _ (inr (inl refl)) c
member_typed place (enum c) = choice_typed 2 _ (inl refl) c
member_typed place (struct s) = struct_typed _ s
member_typed place (attribute a) = (inl refl, (inl refl, tt))
member_typed place (command c) = (inl refl, tt)
member_typed place (event e) = (inl refl, fields_typed e.fields)

instance_typed : (i : Instance) → Typed (instance_record i)
unfolding instance_record plain
instance_typed (attribute_instance a) = inl refl
instance_typed (command_instance n) = inl refl
instance_typed (event_instance n) = inl refl

part_typed : (p : Part) → All Typed (part_records p)
unfolding part_records plain
part_typed (device d) = (inl refl, tt)
part_typed (binding n) = (inl refl, tt)
part_typed (instantiation i) = (inl refl, typed_map instance_record instance_typed i.instances)

item_typed : (top : ℕ) (place : Member → ℕ) (i : Item) → All Typed (item_records top place i)
unfolding item_records cluster_records endpoint_records documented plain
item_typed top place (cluster_item c) = (inl refl, typed_each (member_records place) (member_typed place) c.members)
item_typed top place (endpoint_item e) = (inl refl, typed_each part_records part_typed e.parts)
item_typed top place (enum_item c) = choice_typed 2 top (inl refl) c
item_typed top place (bitmap_item c) = choice_typed 3 top (inr (inl refl)) c
item_typed top place (struct_item s) = struct_typed top s
item_typed top place blank_item = tt

hoisted_typed : (t : Tables) (l : List Item) → All Typed (hoisted t l)
unfolding hoisted
hoisted_typed t [] = tt
hoisted_typed t (i ∷ l) = all_append Typed (item_records 1 (place_by t) i) (hoisted (after_item t i) l) (item_typed 1 (place_by t) i) (hoisted_typed (after_item t i) l)

typed_global : (r : Record) → eqb r.place 1 ≡ true → Typed r → IsType r
typed_global r e (inl z) = absurd (omega (arith, z, eq_of r.place 1 e))
typed_global r e (inr h) = h

globals_typed : (l : List Record) → All Typed l → EachType (globals l)
unfolding globals
globals_typed [] h = tt
globals_typed (r ∷ l) h = go (eqb r.place 1) refl (globals_typed l h.1)
  where
    go : (b : Bool) → eqb r.place 1 ≡ b → EachType (globals l) → EachType (globals (r ∷ l))
    go true e ih = rw (e, globals) (typed_global r e h.0, ih)
    go false e ih = rw (e, globals) ih

pub hoisted_globals : (t : Tables) (l : List Item) → EachType (globals (hoisted t l))
hoisted_globals t l = globals_typed (hoisted t l) (hoisted_typed t l)
