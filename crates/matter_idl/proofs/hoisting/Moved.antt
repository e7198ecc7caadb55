-- Hoisting looks at names' bytes and at no offset: items that are moved are marked as before, and hand out their records moved.
use Prim.Native.Nat.{ℕ}
use mathlib.Core.Path.{◌≡◌, refl, sym, ◌∙◌, ap}
use mathlib.Core.List.{List, [], ◌∷◌, ◌++◌, map, map-append}
use Rattle.lexing.proofs.Shift.{bytes_shift}
use Rattle.items.specs.entries.{Choice}
use Rattle.items.specs.structs.{Struct}
use Rattle.items.specs.clusters.{Member, revision, bitmap, enum, struct, attribute, command, event}
use Rattle.items.specs.items.{Item, cluster_item, endpoint_item, enum_item, bitmap_item, struct_item, blank_item}
use Rattle.items.specs.records.{moved, item_records}
use Rattle.items.proofs.Shift.{shift_choice, shift_struct, shift_member, shift_cluster, shift_item}
use Rattle.items.proofs.RecordsMoved.{item_records_moved}
use Rattle.matter_idl.specs.hoisting.{Tables, choice_id, struct_id, place_by, after_member, after_members, after_item, after_items, hoisted}

module _ (d : ℕ) where
  choice_id_moved : (c : Choice) → choice_id (shift_choice d c) ≡ choice_id c
  unfolding choice_id shift_choice
  choice_id_moved c = bytes_shift d c.name

  struct_id_moved : (s : Struct) → struct_id (shift_struct d s) ≡ struct_id s
  unfolding struct_id shift_struct
  struct_id_moved s = bytes_shift d s.name

  place_moved : (t : Tables) (m : Member) → place_by t (shift_member d m) ≡ place_by t m
  unfolding place_by shift_member shift_choice shift_struct
  place_moved t (revision n) = refl
  place_moved t (bitmap c) = rw (choice_id_moved c)
  place_moved t (enum c) = rw (choice_id_moved c)
  place_moved t (struct s) = rw (struct_id_moved s)
  place_moved t (attribute a) = refl
  place_moved t (command c) = refl
  place_moved t (event e) = refl

  after_member_moved : (t a : Tables) (m : Member) → after_member t a (shift_member d m) ≡ after_member t a m
  unfolding after_member shift_member shift_choice shift_struct
  after_member_moved t a (revision n) = refl
  after_member_moved t a (bitmap c) = rw (choice_id_moved c)
  after_member_moved t a (enum c) = rw (choice_id_moved c)
  after_member_moved t a (struct s) = rw (struct_id_moved s)
  after_member_moved t a (attribute x) = refl
  after_member_moved t a (command x) = refl
  after_member_moved t a (event x) = refl

  after_members_moved : (t a : Tables) (l : List Member) → after_members t a (map (shift_member d) l) ≡ after_members t a l
  unfolding after_members
  after_members_moved t a [] = refl
  after_members_moved t a (m ∷ l) = after_members_moved t (after_member t a (shift_member d m)) l ∙ ap (λ x. after_members t x l) (after_member_moved t a m)

  after_item_moved : (t : Tables) (i : Item) → after_item t (shift_item d i) ≡ after_item t i
  unfolding after_item shift_item shift_cluster
  after_item_moved t (cluster_item c) = after_members_moved t t c.members
  after_item_moved t (endpoint_item e) = refl
  after_item_moved t (enum_item c) = rw (choice_id_moved c)
  after_item_moved t (bitmap_item c) = rw (choice_id_moved c)
  after_item_moved t (struct_item s) = rw (struct_id_moved s)
  after_item_moved t blank_item = refl

  pub after_items_moved : (t : Tables) (l : List Item) → after_items t (map (shift_item d) l) ≡ after_items t l
  unfolding after_items
  after_items_moved t [] = refl
  after_items_moved t (i ∷ l) = after_items_moved (after_item t (shift_item d i)) l ∙ ap (λ x. after_items x l) (after_item_moved t i)

  pub hoisted_moved : (t : Tables) (l : List Item) → hoisted t (map (shift_item d) l) ≡ map (moved d) (hoisted t l)
  unfolding hoisted
  hoisted_moved t [] = refl
  hoisted_moved t (i ∷ l) =
      rw (item_records_moved d 1 (place_by t) (place_by t) (place_moved t) i, after_item_moved t i, hoisted_moved (after_item t i) l)
      (sym (map-append (moved d) (item_records 1 (place_by t) i) (hoisted (after_item t i) l)))

-- the tables after items and others
pub after_items_append : (t : Tables) (l k : List Item) → after_items t (l ++ k) ≡ after_items (after_items t l) k
unfolding after_items
after_items_append t [] k = refl
after_items_append t (i ∷ l) k = after_items_append (after_item t i) l k
