-- Hoisting by a search of the records before: what it finds, and what it does to a record.
use Rattle.std.specs.Prelude.{ℕ, ◌+◌, ◌*◌, ◌^◌, ◌/◌, ◌≤◌, ◌≡◌, Bool, true, false, ◌&&◌, ◌||◌, List, [], ◌∷◌, ◌++◌, eqb, length}
use Rattle.lexing.specs.word_sets.{same_bytes}
use Rattle.items.specs.records.{Extent, at, Record, enum_kind, bitmap_kind, struct_kind}
use Rattle.items.specs.layout.{from_top, kind_field, place_field, flags_field, offset_field, length_field, layout, catalogue_bytes, word_count}
use Rattle.items.specs.stored.{value_at}
use Rattle.items.specs.items.{Item}
use Rattle.items.specs.answers.items.{unhoisted_item}
use Rattle.lexing.proofs.Truth.{All}
use Rattle.items.proofs.Truth.{ItemTrue}
use Rattle.items.proofs.RecordsFit.{RecordFits}
use Rattle.matter_idl.specs.inner.filter.{Grown, hash_of, HoldsId, Filtered}
use Rattle.matter_idl.specs.hoisting.{no_ids, hoisted}
use Rattle.matter_idl.specs.demand_3.{with_place, bytes_at, has_global}

-- the name of the record at offset p of a catalogue lies in a text of n bytes
abbrev pub NameInside : List ℕ → (p n : ℕ) → Type 0
NameInside out p n = value_at layout offset_field out p + value_at layout length_field out p ≤ n

-- the bytes of its name, and the hash of the id of a type
abbrev pub name_at : (t out : List ℕ) → ℕ → List ℕ
name_at t out p = bytes_at t (at (value_at layout offset_field out p) (value_at layout length_field out p))

abbrev pub hash_at : (t out : List ℕ) → ℕ → ℕ
hash_at t out p = hash_of (value_at layout kind_field out p) (name_at t out p)

-- whether it is that of a global type of kind k with the name i
unfoldable pub hits_at : List ℕ → ℕ → (i out : List ℕ) → ℕ → Bool
hits_at t k i out p = eqb (value_at layout place_field out p) 1 && (eqb (value_at layout kind_field out p) k && same_bytes i (name_at t out p))

-- records of a text of n bytes at the front of a buffer, up to end
pub record Catalogue (n : ℕ) (out : List ℕ) (end : ℕ) : Type 0 where
  pub records : List Record
  pub fit : All (RecordFits n) records
  pub tail : List ℕ
  pub bytes : out ≡ catalogue_bytes layout records ++ tail
  pub ends : end ≡ 8 * word_count layout records

-- whether the records before end hold the id of kind k and name i
abbrev pub HeldTo : Bool → (t out : List ℕ) → (end k : ℕ) → List ℕ → Type 0
HeldTo r t out end k i = (c : Catalogue (length t) out end) → r ≡ has_global t k i c.records

-- the same of the id of the type whose record is at p, where the filter f has the ids of those records
abbrev pub KnownTo : Bool → (t out f : List ℕ) → (end p : ℕ) → Type 0
KnownTo r t out f end p = (c : Catalogue (length t) out end) → Filtered f t c.records → r ≡ has_global t (value_at layout kind_field out p) (name_at t out p) c.records

-- a shared type by its kind and its seven flags
unfoldable pub flags_shared : ℕ → ℕ → Bool
flags_shared k f = elim (eqb k struct_kind) [ true ↦ eqb (f / 2 ^ 5) 3 | false ↦ (eqb k enum_kind || eqb k bitmap_kind) && eqb (f / 2 ^ 6) 1 ]

-- a shared type in a cluster that has no mark yet
unfoldable pub is_unmarked : ℕ → ℕ → ℕ → Bool
is_unmarked k p f = eqb p 0 && flags_shared k f

abbrev pub unmarked_at : List ℕ → ℕ → Bool
unmarked_at out p = is_unmarked (value_at layout kind_field out p) (value_at layout place_field out p) (value_at layout flags_field out p)

-- its mark, by the records before its cluster
unfoldable pub mark_after : List ℕ → List Record → ℕ → Extent → ℕ
mark_after t before k e = elim (has_global t k (bytes_at t e) before) [ true ↦ 2 | false ↦ 1 ]

unfoldable pub new_place : List ℕ → List Record → Record → ℕ
new_place t before r = elim (is_unmarked r.kind r.place (from_top 7 r.flags)) [ true ↦ mark_after t before r.kind r.name | false ↦ r.place ]

unfoldable pub marked : List ℕ → List Record → Record → Record
marked t before r = with_place (new_place t before r) r

-- a record in a buffer at p, and the records of earlier items before start, whose ids the filter f has
pub record Marking (t out f : List ℕ) (start p : ℕ) : Type 0 where
  pub before : Catalogue (length t) out start
  pub filtered : Filtered f t before.records
  pub this : Record
  pub fits : RecordFits (length t) this
  pub front : List ℕ
  pub tail : List ℕ
  pub bytes : out ≡ front ++ (catalogue_bytes layout (this ∷ []) ++ tail)
  pub place : length front ≡ p

-- the buffer with the record's mark, and the filter with its id if it is a global type's
pub record Marked {t out f : List ℕ} {start p : ℕ} (m : Marking t out f start p) (new filter : List ℕ) : Type 0 where
  pub bytes : new ≡ m.front ++ (catalogue_bytes layout (marked t m.before.records m.this ∷ []) ++ m.tail)
  pub grown : Grown filter f
  pub id : HoldsId filter t (marked t m.before.records m.this)

abbrev pub MarkedTo : (new filter t out f : List ℕ) → (start p : ℕ) → Type 0
MarkedTo new filter t out f start p = (m : Marking t out f start p) → Marked m new filter

-- by its kind and its place a record is of no type and has no mark
abbrev pub MayBeType : Bool → (kind place : ℕ) → Type 0
MayBeType true k p = Unit {0}
MayBeType false k p = (p ≡ 0) × ((k ≡ struct_kind → ⊥) × ((k ≡ enum_kind → ⊥) × (k ≡ bitmap_kind → ⊥)))

-- an item's records as they were written, from start to end, after the hoisted ones of the items before, whose ids the filter f has
pub record Unhoisted (t out f : List ℕ) (start end : ℕ) : Type 0 where
  pub before : List Item
  pub item : Item
  pub before_true : All (ItemTrue 0 t (length t)) before
  pub item_true : ItemTrue 0 t (length t) item
  pub filtered : Filtered f t (hoisted no_ids before)
  pub tail : List ℕ
  pub bytes : out ≡ catalogue_bytes layout (hoisted no_ids before ++ unhoisted_item item) ++ tail
  pub starts : start ≡ 8 * word_count layout (hoisted no_ids before)
  pub ends : end ≡ start + 8 * word_count layout (unhoisted_item item)

-- the buffer with the item hoisted too, and the filter with its ids
pub record Hoisted {t out f : List ℕ} {start end : ℕ} (u : Unhoisted t out f start end) (new filter : List ℕ) : Type 0 where
  pub bytes : new ≡ catalogue_bytes layout (hoisted no_ids (u.before ++ (u.item ∷ []))) ++ u.tail
  pub filtered : Filtered filter t (hoisted no_ids (u.before ++ (u.item ∷ [])))

abbrev pub HoistedTo : (new filter t out f : List ℕ) → (start end : ℕ) → Type 0
HoistedTo new filter t out f start end = (u : Unhoisted t out f start end) → Hoisted u new filter
