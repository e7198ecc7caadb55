-- A parser by what a function makes of its value.
use mathlib.Core.Path.{◌≡◌, refl, sym, ap, ◌∙◌}
use mathlib.Core.List.{List}
use Prim.Native.Nat.{ℕ, ◌-◌}
use native.Mathlib.Omega.{arith}
use lib.ListN.{drop}
use Rattle.lexing.specs.reply.{Reply, ok, fail, stop, Parser, ret, ◌>>=◌}
use Rattle.std.specs.Prelude.{Ok}
use Rattle.lexing.specs.answers.{Rest, lost_reply, number_of, ReadTo, Lost}
use Rattle.lexing.proofs.Losses.{by_lost}
use Rattle.lexing.proofs.Onward.{Onward}
use Rattle.lexing.proofs.Slicing.{Took, took}
use Rattle.items.specs.clusters.{mapped}

abbrev through : {A B : Type 0} → (A → B) → Reply A → Reply B
through f (ok a c r) = ok (f a) c r
through f (fail p) = fail p
through f (stop n p) = stop n p

mapped_is : {A B : Type 0} (f : A → B) (m : Parser A) (b : ℕ) (u : List ℕ) → mapped m f b u ≡ through f (m b u)
unfolding mapped ◌>>=◌ ret
mapped_is {A} f m b u = go (m b u) refl
  where
    go : (x : Reply A) → m b u ≡ x → mapped m f b u ≡ through f (m b u)
    go (ok a c r) e = rw (e, mapped, ◌>>=◌)
    go (fail p) e = rw (e, mapped, ◌>>=◌)
    go (stop n p) e = rw (e, mapped, ◌>>=◌)

value_of : {A B : Type 0} (f : A → B) (x : Reply A) (k : B) (c : ℕ) (v : List ℕ) → ok k c v ≡ through f x → (a : A) × ((f a ≡ k) × (ok a c v ≡ x))
value_of f (ok a c' r') k c v e =
    let z1 : f a ≡ k = cc in
    let z2 : c ≡ c' = cc in
    let z3 : v ≡ r' = cc in
    (a, (z1, rw (z2, z3) refl))
value_of f (fail p) k c v e = absurd (let z : ◌≡◌ {A = ℕ} 0 1 = cc in omega arith)
value_of f (stop n p) k c v e = absurd (let z : ◌≡◌ {A = ℕ} 0 1 = cc in omega arith)

lost_of_lem : {A B : Type 0} (f : A → B) (l : Lost) (x : Reply A) → lost_reply {A = B} l ≡ through f x → lost_reply l ≡ x
lost_of_lem {A} {B} f l x = by_lost (λ l. lost_reply {A = B} l ≡ through f x → lost_reply l ≡ x) (λ p. failed p x) (λ i p. stopped (number_of i) p x) l
  where
    failed : (p : ℕ) (x : Reply A) → fail p ≡ through f x → fail p ≡ x
    failed p (ok a c r) e = absurd (let z : ◌≡◌ {A = ℕ} 0 1 = cc in omega arith)
    failed p (fail q) e = let z : p ≡ q = cc in rw z refl
    failed p (stop n q) e = absurd (let z : ◌≡◌ {A = ℕ} 0 1 = cc in omega arith)

    stopped : (i p : ℕ) (x : Reply A) → stop i p ≡ through f x → stop i p ≡ x
    stopped i p (ok a c r) e = absurd (let z : ◌≡◌ {A = ℕ} 0 1 = cc in omega arith)
    stopped i p (fail q) e = absurd (let z : ◌≡◌ {A = ℕ} 0 1 = cc in omega arith)
    stopped i p (stop n q) e = let z : p ≡ q = cc in let y : i ≡ n = cc in rw (z, y) refl

-- a step of a sequence whose value is known by what f makes of it
pub record TookAs {A B : Type 0} (f : A → B) (m : Parser A) (b : ℕ) (u : List ℕ) (n : ℕ) (v : B) (c : ℕ) : Type 0 where
  pub value : A
  pub is : f value ≡ v
  pub step : Took m b u n value c

-- an answer taken apart
pub took_as : {A B : Type 0} {f : A → B} {m : Parser A} → Onward m → {b n : ℕ} {u r : List ℕ} {v : B} {c : ℕ} → Rest b u n r → ok v c (drop (c - n) r) ≡ mapped m f n r → TookAs f m b u n v c
took_as {A} {B} {f} {m} w {b} {n} {u} {r} {v} {c} q e =
    let s = value_of f (m n r) v c (drop (c - n) r) (e ∙ mapped_is f m n r) in
    record { value = s.0; is = s.1.0; step = took w q s.1.1 }

module _ {A B : Type 0} (f : A → B) (m : Parser A) (b : ℕ) (u : List ℕ) where
  pub value_as : (v : B) (c : ℕ) (r : List ℕ) → ok v c r ≡ mapped m f b u → (a : A) × ((f a ≡ v) × (ok a c r ≡ m b u))
  value_as v c r e = value_of f (m b u) v c r (e ∙ mapped_is f m b u)

  pub lost_as : (l : Lost) → lost_reply l ≡ mapped m f b u → lost_reply l ≡ m b u
  lost_as l e = lost_of_lem f l (m b u) (e ∙ mapped_is f m b u)

  -- and made
  pub mapped_ok : (a : A) {v : B} (c : ℕ) (r : List ℕ) → f a ≡ v → ok a c r ≡ m b u → ok v c r ≡ mapped m f b u
  mapped_ok a c r d e = rw (mapped_is f m b u, ← e, ← d) refl

  pub mapped_not : (l : Lost) → lost_reply l ≡ m b u → lost_reply l ≡ mapped m f b u
  mapped_not = by_lost (λ l. lost_reply l ≡ m b u → lost_reply l ≡ mapped m f b u) (λ p e. rw (mapped_is f m b u, ← e) refl) (λ n p e. rw (mapped_is f m b u, ← e) refl)

-- an answer that is a value, taken apart
pub read_as : {P A B : Type 0} {f : ℕ → List ℕ → P → B} {W : ℕ → P → ℕ → Type 0} {g : A → B} {m : Parser A} {p : P} {n c : ℕ} {r : List ℕ} → ReadTo f W (mapped m g) (Ok (p, c)) n r → Onward m → {b : ℕ} {u : List ℕ} → Rest b u n r → TookAs g m b u n (f n r p) c
read_as h w q = took_as w q h.reads

-- two changes are one
through_twice : {A B C : Type 0} (f : A → B) (g : B → C) (x : Reply A) → through g (through f x) ≡ through (λ a. g (f a)) x
through_twice f g (ok a c r) = refl
through_twice f g (fail p) = refl
through_twice f g (stop n p) = refl

pub mapped_twice : {A B C : Type 0} (m : Parser A) (f : A → B) (g : B → C) (b : ℕ) (u : List ℕ) → mapped m (λ a. g (f a)) b u ≡ mapped (mapped m f) g b u
mapped_twice m f g b u = mapped_is (λ a. g (f a)) m b u ∙ (sym (through_twice f g (m b u)) ∙ (ap (through g) (sym (mapped_is f m b u)) ∙ sym (mapped_is g (mapped m f) b u)))

-- the same of the same reply
pub mapped_same : {A B : Type 0} (m m' : Parser A) (f : A → B) {b b' : ℕ} {u u' : List ℕ} → m b u ≡ m' b' u' → mapped m f b u ≡ mapped m' f b' u'
mapped_same m m' f {b} {b'} {u} {u'} e = mapped_is f m b u ∙ (ap (through f) e ∙ sym (mapped_is f m' b' u'))
