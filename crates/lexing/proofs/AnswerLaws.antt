-- What an answer of a reader gives its caller, whatever the answer's type.
use mathlib.Core.Path.{◌≡◌, ap, ◌∙◌}
use mathlib.Core.List.{List}
use Prim.Native.Nat.{ℕ, ◌+◌, ◌-◌, ◌≤◌, ◌<◌}
use native.Mathlib.Omega.{arith}
use lib.ListN.{length, drop, length-drop}
use Rattle.lexing.specs.reply.{ok, Parser}
use Rattle.std.specs.Prelude.{Ok, Err}
use Rattle.lexing.specs.answers.{lost_reply, Rest, ReadTo, Lost}
use Rattle.lexing.proofs.Onward.{Onward}
use Rattle.lexing.proofs.Locality.{Consumes}
use Rattle.lexing.proofs.Slicing.{Took, took, reads_in}

module _ {P A : Type 0} {f : ℕ → List ℕ → P → A} {W : ℕ → P → ℕ → Type 0} {m : Parser A} where
  -- the two ways in which a reader answers
  pub read_is : {p : P} {a : A} {b c : ℕ} {u : List ℕ} → f b u p ≡ a → ok a c (drop (c - b) u) ≡ m b u → W b p c → ReadTo f W m (Ok (p, c)) b u
  read_is {b = b} {c = c} {u = u} e h w = record { reads = ap (λ (x : A). ok x c (drop (c - b) u)) e ∙ h; within = w }

  pub read_not : (l : Lost) {b : ℕ} {u : List ℕ} → lost_reply l ≡ m b u → ReadTo f W m (Err l) b u
  read_not l h = record { reads = h; within = tt }

  -- as a step of a sequence
  pub read_took : {p : P} {n c : ℕ} {r : List ℕ} → ReadTo f W m (Ok (p, c)) n r → Onward m → {b : ℕ} {u : List ℕ} → Rest b u n r → Took m b u n (f n r p) c
  read_took h w q = took w q h.reads

  pub read_lost : {l : Lost} {n : ℕ} {r : List ℕ} → ReadTo f W m (Err l) n r → lost_reply l ≡ m n r
  read_lost h = h.reads

-- the last step of a sequence, lost
pub last_lost : {A : Type 0} (m : Parser A) {b n : ℕ} {u r : List ℕ} (l : Lost) → Rest b u n r → lost_reply l ≡ m n r → lost_reply l ≡ m n (drop (n - b) u)
last_lost m {b} {n} l q e = e ∙ ap (m n) q.same

-- what takes a byte ends after its start
pub read_on : {A : Type 0} {m : Parser A} → Onward m → Consumes m → {a : A} {b c : ℕ} {u : List ℕ} → ok a c (drop (c - b) u) ≡ m b u → (b < c) × (c ≤ b + length u)
read_on w v {a} {b} {c} {u} e =
    let p = reads_in w b c u a e in
    let s = rw (← e) at (v.consumes b u) in
    omega (arith, p.0, p.1, s, length-drop (c - b) u)
