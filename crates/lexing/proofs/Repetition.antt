-- Loops of the definitions without their fuel: each turn takes a byte, so what is left of a loop is the loop on what is left.
use mathlib.Core.Path.{◌≡◌, refl, sym, ap, ◌∙◌}
use mathlib.Core.List.{List, [], ◌∷◌, ◌++◌, append_assoc, append-nil}
use Prim.Native.Nat.{ℕ, zero, suc, ◌+◌, ◌-◌, ◌≤◌, ◌<◌}
use native.Mathlib.Omega.{arith}
use lib.ListN.{length, drop, length-drop}
use Rattle.lexing.specs.reply.{Reply, ok, fail, stop, Parser, ret, ◌>>=◌, prepend, many_within, many0, iter_within, iter}
use Rattle.lexing.proofs.Losses.{by_lost}
use Rattle.lexing.proofs.Chain.{Shorter}
use Rattle.lexing.proofs.Locality.{Consumes}
use Rattle.lexing.specs.answers.{number_of, lost_reply, Rest, on_lost, Lost}
use Rattle.lexing.proofs.Slicing.{Took}

module _ {S : Type 0} (f : S → Parser S) (g : ℕ → S → S) (w : (s : S) → Consumes (f s)) where
  iter_enough : (n m : ℕ) (s : S) (b : ℕ) (u : List ℕ) → length u < n → length u < m → iter_within n f g s b u ≡ iter_within m f g s b u
  unfolding iter_within
  iter_enough zero m s b u h k = absurd (omega arith)
  iter_enough (suc n) zero s b u h k = absurd (omega arith)
  iter_enough (suc n) (suc m) s b u h k = go (f s b u) refl ((w s).consumes b u) (iter_enough n m)
    where
      go : (x : Reply S) → f s b u ≡ x → Shorter u x → ((s : S) (b : ℕ) (u : List ℕ) → length u < n → length u < m → iter_within n f g s b u ≡ iter_within m f g s b u)
          → iter_within (suc n) f g s b u ≡ iter_within (suc m) f g s b u
      go (ok t c r) e l ih = rw (e, iter_within) (ih t c r (omega arith) (omega arith))
      go (fail p) e l ih = rw (e, iter_within)
      go (stop i p) e l ih = rw (e, iter_within)

  shorter : (s : S) (b : ℕ) (u : List ℕ) (t : S) (c : ℕ) (r : List ℕ) → f s b u ≡ ok t c r → length r < length u
  shorter s b u t c r e = rw e at ((w s).consumes b u)

  -- a turn
  pub iter_more : (s : S) (b : ℕ) (u : List ℕ) (t : S) (c : ℕ) (r : List ℕ) → f s b u ≡ ok t c r → iter f g s b u ≡ iter f g t c r
  unfolding iter iter_within
  iter_more s b u t c r e = rw (e, iter_within) (iter_enough (length u) (suc (length r)) t c r (shorter s b u t c r e) (omega arith))

  -- the end
  pub iter_fail : (s : S) (b : ℕ) (u : List ℕ) (p : ℕ) → f s b u ≡ fail p → iter f g s b u ≡ ok (g p s) b u
  unfolding iter iter_within
  iter_fail s b u p e = rw (e, iter_within)

  pub iter_stop : (s : S) (b : ℕ) (u : List ℕ) (n p : ℕ) → f s b u ≡ stop n p → iter f g s b u ≡ stop n p
  unfolding iter iter_within
  iter_stop s b u n p e = rw (e, iter_within)

module _ {A : Type 0} (m : Parser A) (w : Consumes m) where
  many0_enough : (i j : ℕ) (b : ℕ) (u : List ℕ) → length u < i → length u < j → many_within i m b u ≡ many_within j m b u
  unfolding many_within
  many0_enough zero j b u h k = absurd (omega arith)
  many0_enough (suc i) zero b u h k = absurd (omega arith)
  many0_enough (suc i) (suc j) b u h k = go (m b u) refl (w.consumes b u) (many0_enough i j)
    where
      go : (x : Reply A) → m b u ≡ x → Shorter u x → ((b : ℕ) (u : List ℕ) → length u < i → length u < j → many_within i m b u ≡ many_within j m b u)
          → many_within (suc i) m b u ≡ many_within (suc j) m b u
      go (ok a c r) e l ih = rw (e, many_within) (ap (prepend a) (ih c r (omega arith) (omega arith)))
      go (fail p) e l ih = rw (e, many_within)
      go (stop n p) e l ih = rw (e, many_within)

  many0_shorter : (b : ℕ) (u : List ℕ) (a : A) (c : ℕ) (r : List ℕ) → m b u ≡ ok a c r → length r < length u
  many0_shorter b u a c r e = rw e at (w.consumes b u)

  pub many0_more : (b : ℕ) (u : List ℕ) (a : A) (c : ℕ) (r : List ℕ) → m b u ≡ ok a c r → many0 m b u ≡ prepend a (many0 m c r)
  unfolding many0 many_within
  many0_more b u a c r e = rw (e, many_within) (ap (prepend a) (many0_enough (length u) (suc (length r)) c r (many0_shorter b u a c r e) (omega arith)))

  pub many0_fail : (b : ℕ) (u : List ℕ) (p : ℕ) → m b u ≡ fail p → many0 m b u ≡ ok [] b u
  unfolding many0 many_within
  many0_fail b u p e = rw (e, many_within)

  pub many0_stop : (b : ℕ) (u : List ℕ) (n p : ℕ) → m b u ≡ stop n p → many0 m b u ≡ stop n p
  unfolding many0 many_within
  many0_stop b u n p e = rw (e, many_within)

-- a value before a repetition, by what the repetition comes to
module _ {A : Type 0} (a : A) where
  pub prepend_ok : (l : List A) (c : ℕ) (r : List ℕ) → prepend a (ok l c r) ≡ ok (a ∷ l) c r
  unfolding prepend
  prepend_ok l c r = refl

  pub prepend_fail : (p : ℕ) → prepend a (fail p) ≡ fail p
  unfolding prepend
  prepend_fail p = refl

  pub prepend_stop : (n p : ℕ) → prepend a (stop n p) ≡ stop n p
  unfolding prepend
  prepend_stop n p = refl

  -- the same as a sequence
  pub prepends : (m : Parser (List A)) (c : ℕ) (r : List ℕ) → (m >>= λ l. ret (a ∷ l)) c r ≡ prepend a (m c r)
  unfolding ◌>>=◌ ret prepend
  prepends m c r = go (m c r) refl
    where
      go : (x : Reply (List A)) → m c r ≡ x → (m >>= λ l. ret (a ∷ l)) c r ≡ prepend a (m c r)
      go (ok l e v) z = rw (z, ◌>>=◌) refl
      go (fail p) z = rw (z, ◌>>=◌) refl
      go (stop n p) z = rw (z, ◌>>=◌) refl

-- A loop of the code against `many0`: the values so far, and the same repetition on what is left.
abbrev pub before : {A : Type 0} → List A → Reply (List A) → Reply (List A)
before l (ok k c r) = ok (l ++ k) c r
before l (fail p) = fail p
before l (stop n p) = stop n p

before_nil : {A : Type 0} (x : Reply (List A)) → before [] x ≡ x
before_nil (ok k c r) = refl
before_nil (fail p) = refl
before_nil (stop n p) = refl

pub before_cons : {A : Type 0} (l : List A) (a : A) (x : Reply (List A)) → before l (prepend a x) ≡ before (l ++ (a ∷ [])) x
unfolding prepend
before_cons l a (ok k c r) = rw (append_assoc l (a ∷ []) k)
before_cons l a (fail p) = refl
before_cons l a (stop n p) = refl

pub record ManyAt {A : Type 0} (m : Parser A) (b : ℕ) (u : List ℕ) (c : ℕ) (l : List A) : Type 0 where
  pub from : b ≤ c
  pub inside : c ≤ b + length u
  pub left : many0 m b u ≡ before l (many0 m c (drop (c - b) u))

pub many0_start : {A : Type 0} (m : Parser A) (b : ℕ) (u : List ℕ) → ManyAt m b u b []
many0_start m b u = let z : b - b ≡ 0 = omega arith in record { from = omega arith; inside = omega arith; left = rw z (sym (before_nil (many0 m b u))) }

pub many0_step : {A : Type 0} {m : Parser A} (w : Consumes m) {b c n : ℕ} {u : List ℕ} {l : List A} {a : A} → ManyAt m b u c l → Took m b u c a n → ManyAt m b u n (l ++ (a ∷ [])) × (c < n)
many0_step {A} {m} w {b} {c} {n} {u} {l} {a} i t =
    let s = many0_shorter m w c (drop (c - b) u) a n (drop (n - b) u) t.goes in
    let e = many0_more m w c (drop (c - b) u) a n (drop (n - b) u) t.goes in (
      record {
        from = omega (arith, i.from, t.up);
        inside = t.inside;
        left = i.left ∙ (ap (before l) e ∙ before_cons l a (many0 m n (drop (n - b) u)));
      },
      omega (arith, s, length-drop (c - b) u, length-drop (n - b) u, i.from, t.up, t.inside),
    )

abbrev pub many_end : {A : Type 0} → Lost → List A → ℕ → List ℕ → Reply (List A)
many_end x l c r = on_lost (λ p. ok l c r) (λ n p. stop n p) x

ends_at : {A : Type 0} (m : Parser A) (w : Consumes m) (x : Lost) (l : List A) (c : ℕ) (r : List ℕ) → lost_reply x ≡ m c r → before l (many0 m c r) ≡ many_end x l c r
ends_at {A} m w x l c r =
    by_lost
    (λ x. lost_reply x ≡ m c r → before l (many0 m c r) ≡ many_end x l c r)
    (λ p e. ap (before l) (many0_fail m w c r p (sym e)) ∙ ap (λ (k : List A). ok k c r) (append-nil l))
    (λ n p e. ap (before l) (many0_stop m w c r (number_of n) p (sym e)))
    x

pub many0_ends : {A : Type 0} {m : Parser A} (w : Consumes m) {b c : ℕ} {u r : List ℕ} {l : List A} (x : Lost) → ManyAt m b u c l → Rest b u c r → lost_reply x ≡ m c r → many0 m b u ≡ many_end x l c (drop (c - b) u)
many0_ends {A} {m} w {b} {c} {u} {r} {l} x i q e = i.left ∙ ends_at m w x l c (drop (c - b) u) (e ∙ ap (m c) q.same)

-- A loop of the code against `iter`: the state so far, and the same loop on what is left.
pub record IterAt {S : Type 0} (f : S → Parser S) (g : ℕ → S → S) (s₀ : S) (b : ℕ) (u : List ℕ) (c : ℕ) (s : S) : Type 0 where
  pub from : b ≤ c
  pub inside : c ≤ b + length u
  pub left : iter f g s c (drop (c - b) u) ≡ iter f g s₀ b u

pub iter_start : {S : Type 0} (f : S → Parser S) (g : ℕ → S → S) (s₀ : S) (b : ℕ) (u : List ℕ) → IterAt f g s₀ b u b s₀
iter_start f g s₀ b u = let z : b - b ≡ 0 = omega arith in record { from = omega arith; inside = omega arith; left = rw z }

module _ {S : Type 0} {f : S → Parser S} {g : ℕ → S → S} (w : (s : S) → Consumes (f s)) {s₀ s : S} {b c : ℕ} {u : List ℕ} (i : IterAt f g s₀ b u c s) where
  pub iter_step : {n : ℕ} {t : S} → Took (f s) b u c t n → IterAt f g s₀ b u n t × (c < n)
  iter_step {n} {t} k =
      let l = shorter f g w s c (drop (c - b) u) t n (drop (n - b) u) k.goes in (
        record {
          from = omega (arith, i.from, k.up);
          inside = k.inside;
          left = sym (iter_more f g w s c (drop (c - b) u) t n (drop (n - b) u) k.goes) ∙ i.left;
        },
        omega (arith, l, length-drop (c - b) u, length-drop (n - b) u, i.from, k.up, k.inside),
      )

  pub iter_ends : (p : ℕ) → f s c (drop (c - b) u) ≡ fail p → ok (g p s) c (drop (c - b) u) ≡ iter f g s₀ b u
  iter_ends p e = sym (iter_fail f g w s c (drop (c - b) u) p e) ∙ i.left
