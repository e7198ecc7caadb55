-- What an element of a repetition promises.
use Rattle.std.specs.Prelude.{ℕ, ◌*◌, ◌-◌, ◌≤◌, ◌<◌, ◌≡◌, List, [], ◌∷◌, ◌++◌}
use Rattle.lexing.specs.reply.{Parser}
use Rattle.lexing.proofs.Locality.{Consumes, OnChain}
use Rattle.items.specs.records.{Record}
use Rattle.items.specs.layout.{layout, word_count}

-- the records of a list are those of its elements, one after the other
pub record Elementwise {A : Type 0} (records : List A → List Record) (one : A → List Record) : Type 0 where
  pub nothing : records [] ≡ []
  pub more : (l : List A) (a : A) → records (l ++ (a ∷ [])) ≡ records l ++ one a

-- m reads an element that takes a byte; what was read takes the words that its size says, and there are few of them
pub record Repeats {P A : Type 0} (all : List A → List Record) (one : A → List Record) (m : Parser A) (at : ℕ → List ℕ → P → A) (Bounds : List ℕ → ℕ → P → ℕ → Type 0) (size : P → ℕ) : Type 0 where
  pub takes : Consumes m
  pub chain : OnChain m
  pub elementwise : Elementwise all one
  pub words : (b c : ℕ) (u : List ℕ) (p : P) → Bounds u b p c → word_count layout (one (at b u p)) ≡ size p
  pub few : (b c : ℕ) (u : List ℕ) (p : P) → Bounds u b p c → b < c → size p ≤ 8 * (c - b)

-- what was read ends inside the part
abbrev pub ReadInside : (ℕ → Type 0) → ℕ → Type 0
ReadInside Bounds n = (c : ℕ) × Bounds c × (c ≤ n)
