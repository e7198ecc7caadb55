-- Hoisting changes the places of records and nothing else.
use mathlib.Core.Path.{◌≡◌, refl, sym, ap, ◌∙◌}
use mathlib.Core.List.{List, [], ◌∷◌, ◌++◌, map, map-append}
use Prim.Native.Nat.{ℕ}
use native.Mathlib.Omega.{arith}
use lib.ListN.{length-append}
use Rattle.items.specs.entries.{Choice}
use Rattle.items.specs.structs.{Struct}
use Rattle.items.specs.clusters.{Member, revision, bitmap, enum, struct, attribute, command, event}
use Rattle.items.specs.items.{Item, cluster_item, endpoint_item, enum_item, bitmap_item, struct_item, blank_item}
use Rattle.items.specs.records.{Record, documented, choice_records, struct_records, member_records, cluster_records, item_records}
use Rattle.lexing.specs.buffers.{each}
use Rattle.items.specs.layout.{layout, record_words, catalogue_words, word_count}
use Rattle.items.specs.answers.items.{unhoisted_item}
use Rattle.matter_idl.specs.hoisting.{Tables, after_item, hoisted}
use Rattle.matter_idl.specs.demand_3.{with_place}
use Rattle.matter_idl.specs.demand_3.{save_places}

-- records that differ in their places alone
pub record Alike (k l : List Record) : Type 0 where
  pub same : save_places k ≡ save_places l

alike : (l : List Record) → Alike l l
alike l = record { same = refl }

pub save_append : (k l : List Record) → save_places (k ++ l) ≡ save_places k ++ save_places l
unfolding save_places
save_append k l = map-append (with_place 0) k l

pub alike_append : {k k' l l' : List Record} → Alike k k' → Alike l l' → Alike (k ++ l) (k' ++ l')
alike_append {k} {k'} {l} {l'} e f = record { same = rw (save_append k l, save_append k' l', e.same, f.same) refl }

alike_more : (r : Record) {k l : List Record} → Alike k l → Alike (r ∷ k) (r ∷ l)
alike_more r e = alike_append (alike (r ∷ [])) e

-- the same records, whatever the places
alike_choice : (k p q : ℕ) (c : Choice) → Alike (choice_records k p c) (choice_records k q c)
unfolding save_places with_place choice_records documented
alike_choice k p q c = record { same = refl }

alike_struct : (p q : ℕ) (s : Struct) → Alike (struct_records p s) (struct_records q s)
unfolding save_places with_place struct_records documented
alike_struct p q s = record { same = refl }

module _ (f g : Member → ℕ) where
  alike_member : (m : Member) → Alike (member_records f m) (member_records g m)
  unfolding member_records
  alike_member (revision n) = alike _
  alike_member (bitmap c) = alike_choice 3 _ _ c
  alike_member (enum c) = alike_choice 2 _ _ c
  alike_member (struct s) = alike_struct _ _ s
  alike_member (attribute a) = alike _
  alike_member (command c) = alike _
  alike_member (event e) = alike _

  alike_members : (l : List Member) → Alike (each (member_records f) l) (each (member_records g) l)
  unfolding each
  alike_members [] = alike []
  alike_members (m ∷ l) = alike_append (alike_member m) (alike_members l)

  pub alike_item : (p q : ℕ) (i : Item) → Alike (item_records p f i) (item_records q g i)
  unfolding item_records cluster_records
  alike_item p q (cluster_item c) = alike_more _ (alike_members c.members)
  alike_item p q (endpoint_item e) = alike _
  alike_item p q (enum_item c) = alike_choice 2 p q c
  alike_item p q (bitmap_item c) = alike_choice 3 p q c
  alike_item p q (struct_item s) = alike_struct p q s
  alike_item p q blank_item = alike []

pub alike_hoisted : (t : Tables) (l : List Item) → Alike (hoisted t l) (each unhoisted_item l)
unfolding hoisted each
alike_hoisted t [] = alike []
alike_hoisted t (i ∷ l) = alike_append (alike_item _ _ 1 1 i) (alike_hoisted (after_item t i) l)

-- they take as many words
words_saved : (l : List Record) → word_count layout (save_places l) ≡ word_count layout l
unfolding save_places with_place word_count catalogue_words each record_words layout
words_saved [] = refl
words_saved (r ∷ l) = omega (arith, length-append (record_words layout r) (each (record_words layout) l), length-append (record_words layout (with_place 0 r)) (each (record_words layout) (map (with_place 0) l)), words_saved l)

pub alike_words : {k l : List Record} → Alike k l → word_count layout k ≡ word_count layout l
alike_words {k} {l} e = sym (words_saved k) ∙ (ap (word_count layout) e.same ∙ words_saved l)

pub item_words : (p q : ℕ) (f g : Member → ℕ) (i : Item) → word_count layout (item_records p f i) ≡ word_count layout (item_records q g i)
item_words p q f g i = alike_words (alike_item f g p q i)

pub hoisted_words : (t : Tables) (l : List Item) → word_count layout (hoisted t l) ≡ word_count layout (each unhoisted_item l)
hoisted_words t l = alike_words (alike_hoisted t l)
