-- Hoisting: shared types of clusters become global, unless a global type of their kind has their id already.
use Rattle.std.specs.Prelude.{ℕ, zero, suc, Bool, true, false, ◌||◌, List, [], ◌∷◌, ◌++◌}
use Rattle.lexing.specs.words.{bytes_of}
use Rattle.lexing.specs.word_sets.{same_bytes}
use Rattle.items.specs.entries.{Choice}
use Rattle.items.specs.structs.{StructType, regular, request, response, shared, Struct}
use Rattle.items.specs.clusters.{Member, revision, bitmap, enum, struct, attribute, command, event}
use Rattle.items.specs.items.{Item, cluster_item, endpoint_item, enum_item, bitmap_item, struct_item, blank_item}
use Rattle.items.specs.records.{Record, item_records}

-- document 01's tables of ids, which are the names' bytes; all empty at the start of a text
pub record Tables : Type 0 where
  pub enums : List (List ℕ)
  pub bitmaps : List (List ℕ)
  pub structs : List (List ℕ)

unfoldable pub no_ids : Tables
no_ids = record { enums = []; bitmaps = []; structs = [] }

unfoldable pub held : List ℕ → List (List ℕ) → Bool
held i [] = false
held i (j ∷ t) = same_bytes i j || held i t

-- the mark of a type in a cluster: shared, it is 2 if its table held its id before the cluster, else 1
unfoldable pub mark : List (List ℕ) → Bool → List ℕ → ℕ
mark t false i = 0
mark t true i = elim (held i t) [ true ↦ 2 | false ↦ 1 ]

-- an id marked 1 joins its table
unfoldable pub join : ℕ → List ℕ → List (List ℕ) → List (List ℕ)
join zero i t = t
join (suc zero) i t = i ∷ t
join (suc (suc p)) i t = t

unfoldable pub choice_id : Choice → List ℕ
choice_id c = bytes_of c.name

unfoldable pub struct_id : Struct → List ℕ
struct_id s = bytes_of s.name

unfoldable pub is_shared : StructType → Bool
is_shared regular = false
is_shared request = false
is_shared (response c) = false
is_shared shared = true

-- the place of a member by the tables before its cluster; only types leave 0
unfoldable pub place_by : Tables → Member → ℕ
place_by t (revision n) = 0
place_by t (bitmap c) = mark t.bitmaps c.shared (choice_id c)
place_by t (enum c) = mark t.enums c.shared (choice_id c)
place_by t (struct s) = mark t.structs (is_shared s.struct_type) (struct_id s)
place_by t (attribute a) = 0
place_by t (command c) = 0
place_by t (event e) = 0

-- a member's id joins a, the tables since its cluster began; t are those before it
unfoldable pub after_member : Tables → Tables → Member → Tables
after_member t a (revision n) = a
after_member t a (bitmap c) = record { enums = a.enums; bitmaps = join (mark t.bitmaps c.shared (choice_id c)) (choice_id c) a.bitmaps; structs = a.structs }
after_member t a (enum c) = record { enums = join (mark t.enums c.shared (choice_id c)) (choice_id c) a.enums; bitmaps = a.bitmaps; structs = a.structs }
after_member t a (struct s) = record { enums = a.enums; bitmaps = a.bitmaps; structs = join (mark t.structs (is_shared s.struct_type) (struct_id s)) (struct_id s) a.structs }
after_member t a (attribute x) = a
after_member t a (command x) = a
after_member t a (event x) = a

unfoldable pub after_members : Tables → Tables → List Member → Tables
after_members t a [] = a
after_members t a (m ∷ ms) = after_members t (after_member t a m) ms

-- a type at the top joins at once, the types of a cluster after it
unfoldable pub after_item : Tables → Item → Tables
after_item t (cluster_item c) = after_members t t c.members
after_item t (endpoint_item e) = t
after_item t (enum_item c) = record { enums = choice_id c ∷ t.enums; bitmaps = t.bitmaps; structs = t.structs }
after_item t (bitmap_item c) = record { enums = t.enums; bitmaps = choice_id c ∷ t.bitmaps; structs = t.structs }
after_item t (struct_item s) = record { enums = t.enums; bitmaps = t.bitmaps; structs = struct_id s ∷ t.structs }
after_item t blank_item = t

-- the tables after items
unfoldable pub after_items : Tables → List Item → Tables
after_items t [] = t
after_items t (i ∷ l) = after_items (after_item t i) l

-- the records of items in text order; a type at the top is marked 1
unfoldable pub hoisted : Tables → List Item → List Record
hoisted t [] = []
hoisted t (i ∷ l) = item_records 1 (place_by t) i ++ hoisted (after_item t i) l
