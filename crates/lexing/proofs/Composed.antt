-- A parser made of parsers that end inside their text ends inside it; what it leaves is a rest of the part.
use Prim.Native.Nat.{ℕ, zero, suc, ◌-◌, ◌≤◌}
use mathlib.Core.Path.{◌≡◌, refl, ◌∙◌, ap}
use mathlib.Core.Bool.{Bool, true, false}
use mathlib.Core.List.{List}
use native.Mathlib.Omega.{arith}
use lib.ListN.{length, drop, length-drop}
use Rattle.lexing.specs.reply.{Reply, ok, fail, stop, Parser, ret, ◌>>=◌, ◌>>◌, prepend, many_within, iter_within, fail_at, stop_at, catch, pick}
use Rattle.lexing.specs.answers.{Rest}
use Rattle.lexing.proofs.Runs.{same, suf_trans, suf_length}
use Rattle.lexing.proofs.Onward.{Ends, Onward}
use Rattle.lexing.proofs.Slicing.{suf_drop, rebase}

pub ends_up : {A : Type 0} {b c : ℕ} {u r : List ℕ} (a : A) → Ends b u (ok a c r) → b ≤ c
ends_up a p = omega (arith, suf_length p.0, p.1)

pub rest_on : {A : Type 0} {s b c : ℕ} {t u r : List ℕ} (a : A) → Rest s t b u → Ends b u (ok a c r) → Rest s t c r
rest_on {A} {s} {b} {c} {t} {u} {r} a h p =
    let l = suf_length p.0 in
    let z : length u - length r ≡ c - b = omega (arith, l, p.1) in
    let up = ends_up a p in
    record { from = omega (arith, h.from, up); same = (rw z at (suf_drop p.0)) ∙ (ap (drop (c - b)) h.same ∙ rebase s b c t h.from up); size = p.1 ∙ h.size }

-- of a whole text
pub rest_whole : (t : List ℕ) (c : ℕ) → c ≤ length t → Rest 0 t c (drop c t)
rest_whole t c h = let z : c - 0 ≡ c = omega arith in record { from = omega arith; same = rw z; size = omega (arith, length-drop c t) }

ends_then : {A B : Type 0} (b c : ℕ) (u r : List ℕ) (a : A) → Ends b u (ok a c r) → (x : Reply B) → Ends c r x → Ends b u x
ends_then b c u r a p (ok d e q) k = (suf_trans k.0 p.0, k.1 ∙ p.1)
ends_then b c u r a p (fail i) k = tt
ends_then b c u r a p (stop n i) k = tt

module _ {A : Type 0} where
  pub onward_ret : (a : A) → Onward (ret a)
  unfolding ret
  onward_ret a = record { onward = λ b u. (same, refl) }

  pub onward_fail : (p : ℕ) → Onward (fail_at {A = A} p)
  unfolding fail_at
  onward_fail p = record { onward = λ b u. tt }

  pub onward_stop : (n p : ℕ) → Onward (stop_at {A = A} n p)
  unfolding stop_at
  onward_stop n p = record { onward = λ b u. tt }

  pub onward_pick : {m k : Parser A} (z : Bool) → Onward m → Onward k → Onward (pick z m k)
  unfolding pick
  onward_pick true v w = v
  onward_pick false v w = w

  pub onward_catch : {m : Parser A} {k : ℕ → Parser A} → Onward m → ((p : ℕ) → Onward (k p)) → Onward (catch m k)
  unfolding catch
  onward_catch {m} {k} w v = record { onward = λ b u. go b u (m b u) refl (w.onward b u) }
    where
      go : (b : ℕ) (u : List ℕ) (x : Reply A) → m b u ≡ x → Ends b u x → Ends b u (catch m k b u)
      go b u (ok a c r) e p = rw (e, catch) p
      go b u (fail q) e p = rw (e, catch) ((v q).onward b u)
      go b u (stop n q) e p = rw (e, catch) tt

  prepend_ends : (b : ℕ) (u : List ℕ) (a : A) (x : Reply (List A)) → Ends b u x → Ends b u (prepend a x)
  unfolding prepend
  prepend_ends b u a (ok l c r) h = h
  prepend_ends b u a (fail p) h = tt
  prepend_ends b u a (stop n p) h = tt

  pub onward_many : {m : Parser A} → Onward m → (n : ℕ) → Onward (many_within n m)
  unfolding many_within
  onward_many w zero = record { onward = λ b u. (same, refl) }
  onward_many {m} w (suc n) = record { onward = λ b u. go b u (m b u) refl (w.onward b u) (onward_many w n) }
    where
      go : (b : ℕ) (u : List ℕ) (x : Reply A) → m b u ≡ x → Ends b u x → Onward (many_within n m) → Ends b u (many_within (suc n) m b u)
      go b u (ok a c r) e p ih = rw (e, many_within) (ends_then b c u r a p (prepend a (many_within n m c r)) (prepend_ends c r a (many_within n m c r) (ih.onward c r)))
      go b u (fail q) e p ih = rw (e, many_within) (same, refl)
      go b u (stop k q) e p ih = rw (e, many_within) tt

module _ {S : Type 0} {f : S → Parser S} (g : ℕ → S → S) (w : (x : S) → Onward (f x)) where
  pub onward_iter : (n : ℕ) (x : S) → Onward (iter_within n f g x)
  unfolding iter_within
  onward_iter zero x = record { onward = λ b u. (same, refl) }
  onward_iter (suc n) x = record { onward = λ b u. go b u (f x b u) refl ((w x).onward b u) (onward_iter n) }
    where
      go : (b : ℕ) (u : List ℕ) (y : Reply S) → f x b u ≡ y → Ends b u y → ((x : S) → Onward (iter_within n f g x)) → Ends b u (iter_within (suc n) f g x b u)
      go b u (ok a c r) e p ih = rw (e, iter_within) (ends_then b c u r a p (iter_within n f g a c r) ((ih a).onward c r))
      go b u (fail q) e p ih = rw (e, iter_within) (same, refl)
      go b u (stop k q) e p ih = rw (e, iter_within) tt

module _ {A B : Type 0} {m : Parser A} where
  pub onward_bind : {k : A → Parser B} → Onward m → ((a : A) → Onward (k a)) → Onward (m >>= k)
  unfolding ◌>>=◌
  onward_bind {k} w v = record { onward = λ b u. go b u (m b u) refl (w.onward b u) }
    where
      go : (b : ℕ) (u : List ℕ) (x : Reply A) → m b u ≡ x → Ends b u x → Ends b u ((m >>= k) b u)
      go b u (ok a c r) e p = rw (e, ◌>>=◌) (ends_then b c u r a p (k a c r) ((v a).onward c r))
      go b u (fail q) e p = rw (e, ◌>>=◌) tt
      go b u (stop n q) e p = rw (e, ◌>>=◌) tt

  pub onward_then : {k : Parser B} → Onward m → Onward k → Onward (m >> k)
  unfolding ◌>>◌
  onward_then w v = onward_bind w (λ a. v)
