-- The filter before the search for an id: bytes whose bits are set for the ids of global types, and never cleared.
use Rattle.std.specs.Prelude.{ℕ, ◌+◌, ◌*◌, ◌^◌, ◌/◌, ◌%◌, ◌<◌, ◌≡◌, Bool, true, false, List}
use Rattle.std.specs.List.{fold}
use Rattle.items.specs.records.{Record}
use Rattle.lexing.proofs.Truth.{All}
use Rattle.matter_idl.specs.demand_3.{bytes_at}
use Rattle.matter_idl.specs.inner.bits.{has_bit}

-- every bit of f is set in g
pub record Grown (g f : List ℕ) : Type 0 where
  pub kept : (p : ℕ) → has_bit f p ≡ true → has_bit g p ≡ true

-- the hash of an id: its kind, and then the bytes of its name
unfoldable pub hash_of : ℕ → List ℕ → ℕ
hash_of k l = fold (λ h x. (h + x) % 2 ^ 32 * 0x1000193 % 2 ^ 32) (0x811c9dc5 + k) l

-- the bits of an id
abbrev pub id_bits : ℕ
id_bits = 8

-- their places, as steps of an odd width from a first one
unfoldable pub position_of : ℕ → ℕ → ℕ
position_of h j = (h % 2 ^ 19 + j * (h / 2 ^ 19 * 2 + 1)) % 2 ^ 19

pub record Holds (f : List ℕ) (h : ℕ) : Type 0 where
  pub each_bit : (j : ℕ) → j < id_bits → has_bit f (position_of h j) ≡ true

-- the answer no is right
abbrev pub MayHoldTo : Bool → List ℕ → ℕ → Type 0
MayHoldTo r f h = r ≡ false → Holds f h → ⊥

pub record Added (g f : List ℕ) (h : ℕ) : Type 0 where
  pub grown : Grown g f
  pub holds : Holds g h

-- the filter has the id of a record of a text t, if that is a global type's
abbrev pub HoldsId : List ℕ → List ℕ → Record → Type 0
HoldsId f t r = r.place ≡ 1 → Holds f (hash_of r.kind (bytes_at t r.name))

-- the filter has the ids of all global types among records
pub record Filtered (f t : List ℕ) (l : List Record) : Type 0 where
  pub ids : All (HoldsId f t) l
