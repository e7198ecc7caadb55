-- Two, three or four steps of a sequence that the code takes as one.
use mathlib.Core.Path.{◌≡◌, refl, ◌∙◌}
use mathlib.Core.List.{List}
use Prim.Native.Nat.{ℕ, ◌-◌}
use lib.ListN.{drop}
use Rattle.lexing.specs.reply.{Reply, ok, fail, stop, Parser, ret, ◌>>=◌, ◌>>◌}
use Rattle.lexing.specs.answers.{Rest, lost_reply, Lost}
use Rattle.lexing.proofs.Slicing.{Took, go, lose}

assoc_at : {A B C : Type 0} (p : Parser B) (k : B → Parser C) (x : Reply A) (n : ℕ) (v : List ℕ) → (((λ b u. x) >> p) >>= k) n v ≡ ((λ b u. x) >> (p >>= k)) n v
unfolding ◌>>=◌ ◌>>◌
assoc_at p k (ok a c r) n v = refl
assoc_at p k (fail q) n v = refl
assoc_at p k (stop i q) n v = refl

module _ {A B C : Type 0} (m : Parser A) (p : Parser B) (k : B → Parser C) where
  then_assoc : (n : ℕ) (v : List ℕ) → ((m >> p) >>= k) n v ≡ (m >> (p >>= k)) n v
  unfolding ◌>>=◌ ◌>>◌
  then_assoc n v = assoc_at p k (m n v) n v

  pub pair_lose : {b n : ℕ} {u r : List ℕ} (l : Lost) → Rest b u n r → lost_reply l ≡ (m >> p) n r → lost_reply l ≡ (m >> (p >>= k)) n (drop (n - b) u)
  pair_lose {b} {n} {u} l q e = lose (m >> p) k l q e ∙ then_assoc n (drop (n - b) u)

pub pair_fall : {A B C : Type 0} (m : Parser A) (p : Parser B) (k : Parser C) {b n : ℕ} {u r : List ℕ} (l : Lost) → Rest b u n r → lost_reply l ≡ (m >> p) n r → lost_reply l ≡ (m >> (p >> k)) n (drop (n - b) u)
unfolding ◌>>◌
pair_fall m p k l q e = pair_lose m p (λ a. k) l q e

module _ {A B C : Type 0} (m : Parser A) (p : Parser B) {b : ℕ} {u : List ℕ} {n : ℕ} where
  pub pair_go : (k : B → Parser C) {X : Reply C} {a : B} {c : ℕ} → Took (m >> p) b u n a c → X ≡ k a c (drop (c - b) u) → X ≡ (m >> (p >>= k)) n (drop (n - b) u)
  pair_go k t e = go k t e ∙ then_assoc m p k n (drop (n - b) u)

  pub pair_on : (k : Parser C) {X : Reply C} {a : B} {c : ℕ} → Took (m >> p) b u n a c → X ≡ k c (drop (c - b) u) → X ≡ (m >> (p >> k)) n (drop (n - b) u)
  unfolding ◌>>◌
  pair_on k t e = pair_go (λ a. k) t e

-- three steps, and four
same_at : {A B : Type 0} (p q : Parser B) → ((n : ℕ) (v : List ℕ) → p n v ≡ q n v) → (x : Reply A) (n : ℕ) (v : List ℕ) → ((λ b u. x) >> p) n v ≡ ((λ b u. x) >> q) n v
unfolding ◌>>=◌ ◌>>◌
same_at p q e (ok a c r) n v = e c r
same_at p q e (fail x) n v = refl
same_at p q e (stop i x) n v = refl

then_same : {A B : Type 0} (m : Parser A) (p q : Parser B) → ((n : ℕ) (v : List ℕ) → p n v ≡ q n v) → (n : ℕ) (v : List ℕ) → (m >> p) n v ≡ (m >> q) n v
unfolding ◌>>=◌ ◌>>◌
then_same m p q e n v = same_at p q e (m n v) n v

module _ {A B C D : Type 0} (m : Parser A) (p : Parser B) (q : Parser C) (k : C → Parser D) where
  three_assoc : (n : ℕ) (v : List ℕ) → ((m >> (p >> q)) >>= k) n v ≡ (m >> (p >> (q >>= k))) n v
  three_assoc n v = then_assoc m (p >> q) k n v ∙ then_same m ((p >> q) >>= k) (p >> (q >>= k)) (then_assoc p q k) n v

  module _ {b n : ℕ} {u : List ℕ} where
    pub three_go : {X : Reply D} {a : C} {c : ℕ} → Took (m >> (p >> q)) b u n a c → X ≡ k a c (drop (c - b) u) → X ≡ (m >> (p >> (q >>= k))) n (drop (n - b) u)
    three_go t e = go k t e ∙ three_assoc n (drop (n - b) u)

    pub three_lose : {r : List ℕ} (l : Lost) → Rest b u n r → lost_reply l ≡ (m >> (p >> q)) n r → lost_reply l ≡ (m >> (p >> (q >>= k))) n (drop (n - b) u)
    three_lose l w e = lose (m >> (p >> q)) k l w e ∙ three_assoc n (drop (n - b) u)

module _ {A B C D E : Type 0} (m : Parser A) (p : Parser B) (q : Parser C) (s : Parser D) (k : D → Parser E) where
  four_assoc : (n : ℕ) (v : List ℕ) → ((m >> (p >> (q >> s))) >>= k) n v ≡ (m >> (p >> (q >> (s >>= k)))) n v
  four_assoc n v = then_assoc m (p >> (q >> s)) k n v ∙ then_same m ((p >> (q >> s)) >>= k) (p >> (q >> (s >>= k))) (three_assoc p q s k) n v

  module _ {b n : ℕ} {u : List ℕ} where
    pub four_go : {X : Reply E} {a : D} {c : ℕ} → Took (m >> (p >> (q >> s))) b u n a c → X ≡ k a c (drop (c - b) u) → X ≡ (m >> (p >> (q >> (s >>= k)))) n (drop (n - b) u)
    four_go t e = go k t e ∙ four_assoc n (drop (n - b) u)

    pub four_lose : {r : List ℕ} (l : Lost) → Rest b u n r → lost_reply l ≡ (m >> (p >> (q >> s))) n r → lost_reply l ≡ (m >> (p >> (q >> (s >>= k)))) n (drop (n - b) u)
    four_lose l w e = lose (m >> (p >> (q >> s))) k l w e ∙ four_assoc n (drop (n - b) u)

-- the same where the value is dropped
module _ {A B C D : Type 0} (m : Parser A) (p : Parser B) (q : Parser C) (k : Parser D) {b n : ℕ} {u : List ℕ} where
  pub three_on : {X : Reply D} {a : C} {c : ℕ} → Took (m >> (p >> q)) b u n a c → X ≡ k c (drop (c - b) u) → X ≡ (m >> (p >> (q >> k))) n (drop (n - b) u)
  unfolding ◌>>◌
  three_on t e = three_go m p q (λ a. k) t e

  pub three_fall : {r : List ℕ} (l : Lost) → Rest b u n r → lost_reply l ≡ (m >> (p >> q)) n r → lost_reply l ≡ (m >> (p >> (q >> k))) n (drop (n - b) u)
  unfolding ◌>>◌
  three_fall l w e = three_lose m p q (λ a. k) l w e

module _ {A B C D E : Type 0} (m : Parser A) (p : Parser B) (q : Parser C) (s : Parser D) (k : Parser E) {b n : ℕ} {u : List ℕ} where
  pub four_on : {X : Reply E} {a : D} {c : ℕ} → Took (m >> (p >> (q >> s))) b u n a c → X ≡ k c (drop (c - b) u) → X ≡ (m >> (p >> (q >> (s >> k)))) n (drop (n - b) u)
  unfolding ◌>>◌
  four_on t e = four_go m p q s (λ a. k) t e

  pub four_fall : {r : List ℕ} (l : Lost) → Rest b u n r → lost_reply l ≡ (m >> (p >> (q >> s))) n r → lost_reply l ≡ (m >> (p >> (q >> (s >> k)))) n (drop (n - b) u)
  unfolding ◌>>◌
  four_fall l w e = four_lose m p q s (λ a. k) l w e

-- a step and what closes it
bind_at : {A B C : Type 0} (g : A → Parser B) (k : B → Parser C) (x : Reply A) (n : ℕ) (v : List ℕ) → (((λ b u. x) >>= g) >>= k) n v ≡ ((λ b u. x) >>= (λ a. g a >>= k)) n v
unfolding ◌>>=◌
bind_at g k (ok a c r) n v = refl
bind_at g k (fail q) n v = refl
bind_at g k (stop i q) n v = refl

bind_same_at : {A B : Type 0} (g h : A → Parser B) → ((a : A) (n : ℕ) (v : List ℕ) → g a n v ≡ h a n v) → (x : Reply A) (n : ℕ) (v : List ℕ) → ((λ b u. x) >>= g) n v ≡ ((λ b u. x) >>= h) n v
unfolding ◌>>=◌
bind_same_at g h e (ok a c r) n v = e a c r
bind_same_at g h e (fail q) n v = refl
bind_same_at g h e (stop i q) n v = refl

pub bind_same : {A B : Type 0} (m : Parser A) (g h : A → Parser B) → ((a : A) (n : ℕ) (v : List ℕ) → g a n v ≡ h a n v) → (n : ℕ) (v : List ℕ) → (m >>= g) n v ≡ (m >>= h) n v
unfolding ◌>>=◌
bind_same m g h e n v = bind_same_at g h e (m n v) n v

pub bind_assoc : {A B C : Type 0} (m : Parser A) (g : A → Parser B) (k : B → Parser C) (n : ℕ) (v : List ℕ) → ((m >>= g) >>= k) n v ≡ (m >>= (λ a. g a >>= k)) n v
unfolding ◌>>=◌
bind_assoc m g k n v = bind_at g k (m n v) n v

pub ret_first : {A B : Type 0} (a : A) (k : A → Parser B) (n : ℕ) (v : List ℕ) → (ret a >>= k) n v ≡ k a n v
unfolding ◌>>=◌ ret
ret_first a k n v = refl

-- a step and what is on both sides of it
module _ {A B C D : Type 0} (m : Parser A) (p : Parser B) (q : Parser C) (k : B → Parser D) where
  ret_then : (x : B) (n : ℕ) (v : List ℕ) → ((q >> ret x) >>= k) n v ≡ (q >> k x) n v
  ret_then x n v = then_assoc q (ret x) k n v ∙ then_same q (ret x >>= k) (k x) (ret_first x k) n v

  around : (n : ℕ) (v : List ℕ) → ((p >>= (λ x. q >> ret x)) >>= k) n v ≡ (p >>= (λ x. q >> k x)) n v
  around n v = bind_assoc p (λ x. q >> ret x) k n v ∙ bind_same p (λ x. (q >> ret x) >>= k) (λ x. q >> k x) ret_then n v

  pub between_go : {b n : ℕ} {u : List ℕ} {X : Reply D} {a : B} {c : ℕ} → Took (m >> (p >>= (λ x. q >> ret x))) b u n a c → X ≡ k a c (drop (c - b) u) → X ≡ (m >> (p >>= (λ x. q >> k x))) n (drop (n - b) u)
  between_go {b} {n} {u} t e = go k t e ∙ (then_assoc m (p >>= (λ x. q >> ret x)) k n (drop (n - b) u) ∙ then_same m ((p >>= (λ x. q >> ret x)) >>= k) (p >>= (λ x. q >> k x)) around n (drop (n - b) u))
