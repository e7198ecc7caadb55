-- Certificates of parsers, and how they are put together: a parser keeps to the chain, and looks at nothing after a cut.
use Prim.Native.Nat.{ℕ, zero, suc, ◌+◌, ◌≤◌, ◌<◌}
use mathlib.Core.Path.{◌≡◌, refl}
use mathlib.Core.Bool.{Bool, true, false}
use mathlib.Core.List.{List, [], ◌∷◌, ◌++◌}
use native.Mathlib.Omega.{arith}
use lib.ListN.{length, length-append}
use Rattle.lexing.specs.reply.{Reply, ok, fail, stop, Parser, ret, ◌>>=◌, ◌>>◌, opt, no_nearer, ◌or◌, prepend, many_within, many0, fail_at, position, catch, pick, iter_within, iter}
use Rattle.lexing.proofs.Runs.{Cut, Suf, suf_length}
use Rattle.lexing.proofs.Chain.{To, here, Clean, to_trans, to_suf, resume, inside_cut, Moves, CutRest, Shorter, ext}

-- a step that is ok ends on the chain, at the same depth, with the offset counted on
pub record OnChain {A : Type 0} (m : Parser A) : Type 0 where
  pub chain : (k b : ℕ) (u : List ℕ) → Moves k b u (m b u)

-- it leaves the last } in place
pub record KeepsCut {A : Type 0} (m : Parser A) : Type 0 where
  pub keeps : (b : ℕ) (u : List ℕ) → Cut u → CutRest (m b u)

-- it reads at least one byte
pub record Consumes {A : Type 0} (m : Parser A) : Type 0 where
  pub consumes : (b : ℕ) (u : List ℕ) → Shorter u (m b u)

-- at any depth (Local), inside braces (LocalInside): what is appended to a clean text is not looked at
pub record Local {A : Type 0} (m : Parser A) : Type 0 where
  pub on_chain : OnChain m
  pub local : (k b : ℕ) (u s : List ℕ) → Clean k u → Cut u → m b (u ++ s) ≡ ext s (m b u)

pub record LocalInside {A : Type 0} (m : Parser A) : Type 0 where
  pub on_chain : OnChain m
  pub local : (k b : ℕ) (u s : List ℕ) → Clean (suc k) u → Cut u → m b (u ++ s) ≡ ext s (m b u)

pub inside_local : {A : Type 0} {m : Parser A} → Local m → LocalInside m
inside_local t = record { on_chain = t.on_chain; local = λ k b u s. t.local (suc k) b u s }

-- ret
pub chain_ret : {A : Type 0} (a : A) → OnChain (ret a)
unfolding ret
chain_ret a = record { chain = λ k b u. (here, refl) }

pub local_ret : {A : Type 0} (a : A) → Local (ret a)
unfolding ret ext
local_ret a = record { on_chain = chain_ret a; local = λ k b u s c d. refl }

pub keeps_ret : {A : Type 0} (a : A) → KeepsCut (ret a)
unfolding ret
keeps_ret a = record { keeps = λ b u c. c }

-- a sequence
glue : {B : Type 0} (j b c : ℕ) (u r : List ℕ) → To j r j u → c + length r ≡ b + length u → (x : Reply B) → Moves j c r x → Moves j b u x
glue j b c u r t n (ok y e v) p = (to_trans t p.0, omega arith)
glue j b c u r t n (fail q) p = tt
glue j b c u r t n (stop i q) p = tt

module _ {A B : Type 0} {m : Parser A} {k : A → Parser B} where
  pub chain_bind : OnChain m → ((a : A) → OnChain (k a)) → OnChain (m >>= k)
  unfolding ◌>>=◌
  chain_bind w v = record { chain = λ j b u. go j b u (m b u) refl (w.chain j b u) }
    where
      go : (j b : ℕ) (u : List ℕ) (x : Reply A) → m b u ≡ x → Moves j b u x → Moves j b u ((m >>= k) b u)
      go j b u (ok a c r) e p = rw (e, ◌>>=◌) (glue j b c u r p.0 p.1 (k a c r) ((v a).chain j c r))
      go j b u (fail q) e p = rw (e, ◌>>=◌) tt
      go j b u (stop n q) e p = rw (e, ◌>>=◌) tt

  pub keeps_bind : KeepsCut m → ((a : A) → KeepsCut (k a)) → KeepsCut (m >>= k)
  unfolding ◌>>=◌
  keeps_bind w v = record { keeps = λ b u d. go b u (m b u) refl (w.keeps b u d) }
    where
      go : (b : ℕ) (u : List ℕ) (x : Reply A) → m b u ≡ x → CutRest x → CutRest ((m >>= k) b u)
      go b u (ok a c r) e p = rw (e, ◌>>=◌) ((v a).keeps c r p)
      go b u (fail q) e p = rw (e, ◌>>=◌) tt
      go b u (stop n q) e p = rw (e, ◌>>=◌) tt

  pub local_bind : Local m → KeepsCut m → ((a : A) → Local (k a)) → Local (m >>= k)
  unfolding ◌>>=◌ ext
  local_bind t w v = record { on_chain = chain_bind t.on_chain (λ a. (v a).on_chain); local = λ j b u s c d. go j b u s c d (m b u) refl (t.on_chain.chain j b u) (w.keeps b u d) }
    where
      go : (j b : ℕ) (u s : List ℕ) → Clean j u → Cut u → (x : Reply A) → m b u ≡ x → Moves j b u x → CutRest x → (m >>= k) b (u ++ s) ≡ ext s ((m >>= k) b u)
      go j b u s c d (ok a e r) q p n = rw (t.local j b u s c d, q, ◌>>=◌) ((v a).local j e r s (resume p.0 c) n)
      go j b u s c d (fail e) q p n = rw (t.local j b u s c d, q, ◌>>=◌)
      go j b u s c d (stop i e) q p n = rw (t.local j b u s c d, q, ◌>>=◌)

  pub inside_bind : LocalInside m → ((a : A) → LocalInside (k a)) → LocalInside (m >>= k)
  unfolding ◌>>=◌ ext
  inside_bind t v = record { on_chain = chain_bind t.on_chain (λ a. (v a).on_chain); local = λ j b u s c d. go j b u s c d (m b u) refl (t.on_chain.chain (suc j) b u) }
    where
      go : (j b : ℕ) (u s : List ℕ) → Clean (suc j) u → Cut u → (x : Reply A) → m b u ≡ x → Moves (suc j) b u x → (m >>= k) b (u ++ s) ≡ ext s ((m >>= k) b u)
      go j b u s c d (ok a e r) q p =
          let n = resume p.0 c in
          rw (t.local j b u s c d, q, ◌>>=◌) ((v a).local j e r s n (inside_cut r (to_suf p.0) n d))
      go j b u s c d (fail e) q p = rw (t.local j b u s c d, q, ◌>>=◌)
      go j b u s c d (stop i e) q p = rw (t.local j b u s c d, q, ◌>>=◌)

module _ {A B : Type 0} {m : Parser A} {k : Parser B} where
  pub chain_then : OnChain m → OnChain k → OnChain (m >> k)
  unfolding ◌>>◌
  chain_then w v = chain_bind w (λ a. v)

  pub keeps_then : KeepsCut m → KeepsCut k → KeepsCut (m >> k)
  unfolding ◌>>◌
  keeps_then w v = keeps_bind w (λ a. v)

  pub local_then : Local m → KeepsCut m → Local k → Local (m >> k)
  unfolding ◌>>◌
  local_then t w v = local_bind t w (λ a. v)

  pub inside_then : LocalInside m → LocalInside k → LocalInside (m >> k)
  unfolding ◌>>◌
  inside_then t v = inside_bind t (λ a. v)

opt_ext : {A : Type 0} (m : Parser A) (b : ℕ) (u s : List ℕ) → m b (u ++ s) ≡ ext s (m b u) → opt m b (u ++ s) ≡ ext s (opt m b u)
unfolding opt ext
opt_ext {A} m b u s h = go (m b u) refl
  where
    go : (x : Reply A) → m b u ≡ x → opt m b (u ++ s) ≡ ext s (opt m b u)
    go (ok a c r) e = rw (h, e, opt)
    go (fail q) e = rw (h, e, opt)
    go (stop n q) e = rw (h, e, opt)

-- an optional part
module _ {A : Type 0} {m : Parser A} where
  pub chain_opt : OnChain m → OnChain (opt m)
  unfolding opt
  chain_opt w = record { chain = λ j b u. go j b u (m b u) refl (w.chain j b u) }
    where
      go : (j b : ℕ) (u : List ℕ) (x : Reply A) → m b u ≡ x → Moves j b u x → Moves j b u (opt m b u)
      go j b u (ok a c r) e p = rw (e, opt) p
      go j b u (fail q) e p = rw (e, opt) (here, refl)
      go j b u (stop n q) e p = rw (e, opt) tt

  pub keeps_opt : KeepsCut m → KeepsCut (opt m)
  unfolding opt
  keeps_opt w = record { keeps = λ b u d. go b u d (m b u) refl (w.keeps b u d) }
    where
      go : (b : ℕ) (u : List ℕ) → Cut u → (x : Reply A) → m b u ≡ x → CutRest x → CutRest (opt m b u)
      go b u d (ok a c r) e p = rw (e, opt) p
      go b u d (fail q) e p = rw (e, opt) d
      go b u d (stop n q) e p = rw (e, opt) tt

  pub local_opt : Local m → Local (opt m)
  local_opt t = record { on_chain = chain_opt t.on_chain; local = λ j b u s c d. opt_ext m b u s (t.local j b u s c d) }

  pub inside_opt : LocalInside m → LocalInside (opt m)
  inside_opt t = record { on_chain = chain_opt t.on_chain; local = λ j b u s c d. opt_ext m b u s (t.local j b u s c d) }

-- a choice
further_moves : {A : Type 0} (j b p : ℕ) (u : List ℕ) (x : Reply A) → Moves j b u x → Moves j b u (no_nearer p x)
unfolding no_nearer
further_moves j b p u (ok a c r) m = m
further_moves j b p u (fail q) m = tt
further_moves j b p u (stop n q) m = tt

further_cut : {A : Type 0} (p : ℕ) (x : Reply A) → CutRest x → CutRest (no_nearer p x)
unfolding no_nearer
further_cut p (ok a c r) m = m
further_cut p (fail q) m = tt
further_cut p (stop n q) m = tt

further_ext : {A : Type 0} (p : ℕ) (s : List ℕ) (x : Reply A) → no_nearer p (ext s x) ≡ ext s (no_nearer p x)
unfolding no_nearer ext
further_ext p s (ok a c r) = refl
further_ext p s (fail q) = refl
further_ext p s (stop n q) = refl

or_ext : {A : Type 0} (m k : Parser A) (b : ℕ) (u s : List ℕ) → m b (u ++ s) ≡ ext s (m b u) → k b (u ++ s) ≡ ext s (k b u) → (m or k) b (u ++ s) ≡ ext s ((m or k) b u)
unfolding ◌or◌ ext
or_ext {A} m k b u s h i = go (m b u) refl
  where
    go : (x : Reply A) → m b u ≡ x → (m or k) b (u ++ s) ≡ ext s ((m or k) b u)
    go (ok a c r) e = rw (h, e, ◌or◌)
    go (fail q) e = rw (h, e, i, ◌or◌) (further_ext q s (k b u))
    go (stop n q) e = rw (h, e, ◌or◌)

module _ {A : Type 0} {m k : Parser A} where
  pub chain_or : OnChain m → OnChain k → OnChain (m or k)
  unfolding ◌or◌
  chain_or w v = record { chain = λ j b u. go j b u (m b u) refl (w.chain j b u) }
    where
      go : (j b : ℕ) (u : List ℕ) (x : Reply A) → m b u ≡ x → Moves j b u x → Moves j b u ((m or k) b u)
      go j b u (ok a c r) e p = rw (e, ◌or◌) p
      go j b u (fail q) e p = rw (e, ◌or◌) (further_moves j b q u (k b u) (v.chain j b u))
      go j b u (stop n q) e p = rw (e, ◌or◌) tt

  pub keeps_or : KeepsCut m → KeepsCut k → KeepsCut (m or k)
  unfolding ◌or◌
  keeps_or w v = record { keeps = λ b u d. go b u d (m b u) refl (w.keeps b u d) }
    where
      go : (b : ℕ) (u : List ℕ) → Cut u → (x : Reply A) → m b u ≡ x → CutRest x → CutRest ((m or k) b u)
      go b u d (ok a c r) e p = rw (e, ◌or◌) p
      go b u d (fail q) e p = rw (e, ◌or◌) (further_cut q (k b u) (v.keeps b u d))
      go b u d (stop n q) e p = rw (e, ◌or◌) tt

  pub local_or : Local m → Local k → Local (m or k)
  local_or t v = record { on_chain = chain_or t.on_chain v.on_chain; local = λ j b u s c d. or_ext m k b u s (t.local j b u s c d) (v.local j b u s c d) }

  pub inside_or : LocalInside m → LocalInside k → LocalInside (m or k)
  inside_or t v = record { on_chain = chain_or t.on_chain v.on_chain; local = λ j b u s c d. or_ext m k b u s (t.local j b u s c d) (v.local j b u s c d) }

-- a step that reads a byte
module _ {A B : Type 0} {m : Parser A} {k : A → Parser B} where
  pub consumes_left : Consumes m → ((a : A) → OnChain (k a)) → Consumes (m >>= k)
  unfolding ◌>>=◌
  consumes_left w v = record { consumes = λ b u. go b u (m b u) refl (w.consumes b u) }
    where
      less : (c : ℕ) (u r : List ℕ) → length r < length u → (x : Reply B) → Moves 0 c r x → Shorter u x
      less c u r l (ok y e v) p = omega (arith, suf_length (to_suf p.0))
      less c u r l (fail q) p = tt
      less c u r l (stop n q) p = tt

      go : (b : ℕ) (u : List ℕ) (x : Reply A) → m b u ≡ x → Shorter u x → Shorter u ((m >>= k) b u)
      go b u (ok a c r) e p = rw (e, ◌>>=◌) (less c u r p (k a c r) ((v a).chain 0 c r))
      go b u (fail q) e p = rw (e, ◌>>=◌) tt
      go b u (stop n q) e p = rw (e, ◌>>=◌) tt

  pub consumes_right : OnChain m → ((a : A) → Consumes (k a)) → Consumes (m >>= k)
  unfolding ◌>>=◌
  consumes_right w v = record { consumes = λ b u. go b u (m b u) refl (w.chain 0 b u) }
    where
      less : (u r : List ℕ) → Suf r u → (x : Reply B) → Shorter r x → Shorter u x
      less u r l (ok y e v) p = omega (arith, suf_length l)
      less u r l (fail q) p = tt
      less u r l (stop n q) p = tt

      go : (b : ℕ) (u : List ℕ) (x : Reply A) → m b u ≡ x → Moves 0 b u x → Shorter u ((m >>= k) b u)
      go b u (ok a c r) e p = rw (e, ◌>>=◌) (less u r (to_suf p.0) (k a c r) ((v a).consumes c r))
      go b u (fail q) e p = rw (e, ◌>>=◌) tt
      go b u (stop n q) e p = rw (e, ◌>>=◌) tt

further_shorter : {A : Type 0} (p : ℕ) (u : List ℕ) (x : Reply A) → Shorter u x → Shorter u (no_nearer p x)
unfolding no_nearer
further_shorter p u (ok a c r) m = m
further_shorter p u (fail q) m = tt
further_shorter p u (stop n q) m = tt

pub consumes_or : {A : Type 0} {m k : Parser A} → Consumes m → Consumes k → Consumes (m or k)
unfolding ◌or◌
consumes_or {A} {m} {k} w v = record { consumes = λ b u. go b u (m b u) refl (w.consumes b u) }
  where
    go : (b : ℕ) (u : List ℕ) (x : Reply A) → m b u ≡ x → Shorter u x → Shorter u ((m or k) b u)
    go b u (ok a c r) e p = rw (e, ◌or◌) p
    go b u (fail q) e p = rw (e, ◌or◌) (further_shorter q u (k b u) (v.consumes b u))
    go b u (stop n q) e p = rw (e, ◌or◌) tt

-- a repetition inside braces
pub cut_length : (u : List ℕ) → Cut u → 0 < length u
cut_length [] d = absurd d
cut_length (x ∷ u) d = omega arith

prepend_ext : {A : Type 0} (a : A) (s : List ℕ) (x : Reply (List A)) → prepend a (ext s x) ≡ ext s (prepend a x)
unfolding prepend ext
prepend_ext a s (ok l c r) = refl
prepend_ext a s (fail p) = refl
prepend_ext a s (stop n p) = refl

prepend_moves : {A : Type 0} (j b : ℕ) (u : List ℕ) (a : A) (x : Reply (List A)) → Moves j b u x → Moves j b u (prepend a x)
unfolding prepend
prepend_moves j b u a (ok l c r) m = m
prepend_moves j b u a (fail p) m = tt
prepend_moves j b u a (stop n p) m = tt

module _ {A : Type 0} {m : Parser A} where
  chain_many_within : OnChain m → (n j b : ℕ) (u : List ℕ) → Moves j b u (many_within n m b u)
  unfolding many_within
  chain_many_within w zero j b u = (here, refl)
  chain_many_within w (suc n) j b u = go (m b u) refl (w.chain j b u) (chain_many_within w n j)
    where
      go : (x : Reply A) → m b u ≡ x → Moves j b u x → ((c : ℕ) (r : List ℕ) → Moves j c r (many_within n m c r)) → Moves j b u (many_within (suc n) m b u)
      go (ok a c r) e p ih = rw (e, many_within) (prepend_moves j b u a (many_within n m c r) (glue j b c u r p.0 p.1 (many_within n m c r) (ih c r)))
      go (fail q) e p ih = rw (e, many_within) (here, refl)
      go (stop i q) e p ih = rw (e, many_within) tt

  many0_ext : LocalInside m → Consumes m → (n n' k b : ℕ) (u s : List ℕ) → length u ≤ n → length u ≤ n' → Clean (suc k) u → Cut u
      → many_within n' m b (u ++ s) ≡ ext s (many_within n m b u)
  unfolding many_within ext
  many0_ext t w zero n' k b u s l l' c d = absurd (omega (arith, cut_length u d))
  many0_ext t w (suc n) zero k b u s l l' c d = absurd (omega (arith, cut_length u d))
  many0_ext t w (suc n) (suc n') k b u s l l' c d = step l l' c d (m b u) refl (t.on_chain.chain (suc k) b u) (w.consumes b u) (many0_ext t w n n' k)
    where
      step : length u ≤ suc n → length u ≤ suc n' → Clean (suc k) u → Cut u → (y : Reply A) → m b u ≡ y → Moves (suc k) b u y → Shorter u y
          → ((e : ℕ) (r s : List ℕ) → length r ≤ n → length r ≤ n' → Clean (suc k) r → Cut r → many_within n' m e (r ++ s) ≡ ext s (many_within n m e r))
          → many_within (suc n') m b (u ++ s) ≡ ext s (many_within (suc n) m b u)
      step l l' c d (ok a e r) q p h ih =
          let c' = resume p.0 c in
          rw (t.local k b u s c d, q, many_within) (rw (ih e r s (omega arith) (omega arith) c' (inside_cut r (to_suf p.0) c' d)) (prepend_ext a s (many_within n m e r)))
      step l l' c d (fail e) q p h ih = rw (t.local k b u s c d, q, many_within)
      step l l' c d (stop i e) q p h ih = rw (t.local k b u s c d, q, many_within)

  pub chain_many0 : OnChain m → OnChain (many0 m)
  unfolding many0
  chain_many0 w = record { chain = λ j b u. chain_many_within w (suc (length u)) j b u }

  pub inside_many0 : LocalInside m → Consumes m → LocalInside (many0 m)
  unfolding many0
  inside_many0 t w = record { on_chain = chain_many0 t.on_chain; local = λ k b u s c d. many0_ext t w (suc (length u)) (suc (length (u ++ s))) k b u s (omega arith) (simp length-append (omega arith)) c d }

pub chain_inside : {A : Type 0} {m : Parser A} → LocalInside m → OnChain m
chain_inside t = t.on_chain

pub chain_local : {A : Type 0} {m : Parser A} → Local m → OnChain m
chain_local t = t.on_chain

module _ {A B : Type 0} {m : Parser A} {k : Parser B} where
  pub consumes_then_left : Consumes m → OnChain k → Consumes (m >> k)
  unfolding ◌>>◌
  consumes_then_left w v = consumes_left w (λ a. v)

  pub consumes_then_right : OnChain m → Consumes k → Consumes (m >> k)
  unfolding ◌>>◌
  consumes_then_right w v = consumes_right w (λ a. v)

-- a step that looks at no text: it may be after the last }
pub record Blind {A : Type 0} (m : Parser A) : Type 0 where
  pub on_chain : OnChain m
  pub local : (b : ℕ) (u s : List ℕ) → m b (u ++ s) ≡ ext s (m b u)

pub blind_ret : {A : Type 0} (a : A) → Blind (ret a)
unfolding ret ext
blind_ret a = record { on_chain = chain_ret a; local = λ b u s. refl }

pub local_last : {A B : Type 0} {m : Parser A} {k : A → Parser B} → Local m → ((a : A) → Blind (k a)) → Local (m >>= k)
unfolding ◌>>=◌ ext
local_last {A} {B} {m} {k} t v = record { on_chain = chain_bind t.on_chain (λ a. (v a).on_chain); local = λ j b u s c d. go j b u s c d (m b u) refl }
  where
    go : (j b : ℕ) (u s : List ℕ) → Clean j u → Cut u → (x : Reply A) → m b u ≡ x → (m >>= k) b (u ++ s) ≡ ext s ((m >>= k) b u)
    go j b u s c d (ok a e r) q = rw (t.local j b u s c d, q, ◌>>=◌) ((v a).local e r s)
    go j b u s c d (fail e) q = rw (t.local j b u s c d, q, ◌>>=◌)
    go j b u s c d (stop i e) q = rw (t.local j b u s c d, q, ◌>>=◌)

-- steps that look at no text
pub chain_fail : {A : Type 0} (p : ℕ) → OnChain (fail_at {A = A} p)
unfolding fail_at
chain_fail p = record { chain = λ k b u. tt }

pub keeps_fail : {A : Type 0} (p : ℕ) → KeepsCut (fail_at {A = A} p)
unfolding fail_at
keeps_fail p = record { keeps = λ b u c. tt }

pub consumes_fail : {A : Type 0} (p : ℕ) → Consumes (fail_at {A = A} p)
unfolding fail_at
consumes_fail p = record { consumes = λ b u. tt }

pub local_fail : {A : Type 0} (p : ℕ) → Local (fail_at {A = A} p)
unfolding fail_at ext
local_fail p = record { on_chain = chain_fail p; local = λ k b u s c d. refl }

pub chain_position : OnChain position
unfolding position
chain_position = record { chain = λ k b u. (here, refl) }

pub keeps_position : KeepsCut position
unfolding position
keeps_position = record { keeps = λ b u c. c }

pub local_position : Local position
unfolding position ext
local_position = record { on_chain = chain_position; local = λ k b u s c d. refl }

-- a failure that is caught
pub catch_ext : {A : Type 0} (m : Parser A) (h : ℕ → Parser A) (b : ℕ) (u s : List ℕ) → m b (u ++ s) ≡ ext s (m b u) → ((p : ℕ) → h p b (u ++ s) ≡ ext s (h p b u)) → catch m h b (u ++ s) ≡ ext s (catch m h b u)
unfolding catch ext
catch_ext {A} m h b u s q v = go (m b u) refl
  where
    go : (x : Reply A) → m b u ≡ x → catch m h b (u ++ s) ≡ ext s (catch m h b u)
    go (ok a c r) e = rw (q, e, catch)
    go (fail p) e = rw (q, e, catch) (v p)
    go (stop n p) e = rw (q, e, catch)

module _ {A : Type 0} {m : Parser A} {h : ℕ → Parser A} where
  pub chain_catch : OnChain m → ((p : ℕ) → OnChain (h p)) → OnChain (catch m h)
  unfolding catch
  chain_catch w v = record { chain = λ j b u. go j b u (m b u) refl (w.chain j b u) }
    where
      go : (j b : ℕ) (u : List ℕ) (x : Reply A) → m b u ≡ x → Moves j b u x → Moves j b u (catch m h b u)
      go j b u (ok a c r) e p = rw (e, catch) p
      go j b u (fail q) e p = rw (e, catch) ((v q).chain j b u)
      go j b u (stop n q) e p = rw (e, catch) tt

  pub keeps_catch : KeepsCut m → ((p : ℕ) → KeepsCut (h p)) → KeepsCut (catch m h)
  unfolding catch
  keeps_catch w v = record { keeps = λ b u d. go b u d (m b u) refl (w.keeps b u d) }
    where
      go : (b : ℕ) (u : List ℕ) → Cut u → (x : Reply A) → m b u ≡ x → CutRest x → CutRest (catch m h b u)
      go b u d (ok a c r) e p = rw (e, catch) p
      go b u d (fail q) e p = rw (e, catch) ((v q).keeps b u d)
      go b u d (stop n q) e p = rw (e, catch) tt

  pub consumes_catch : Consumes m → ((p : ℕ) → Consumes (h p)) → Consumes (catch m h)
  unfolding catch
  consumes_catch w v = record { consumes = λ b u. go b u (m b u) refl (w.consumes b u) }
    where
      go : (b : ℕ) (u : List ℕ) (x : Reply A) → m b u ≡ x → Shorter u x → Shorter u (catch m h b u)
      go b u (ok a c r) e p = rw (e, catch) p
      go b u (fail q) e p = rw (e, catch) ((v q).consumes b u)
      go b u (stop n q) e p = rw (e, catch) tt

  pub local_catch : Local m → ((p : ℕ) → Local (h p)) → Local (catch m h)
  local_catch t v = record { on_chain = chain_catch t.on_chain (λ p. (v p).on_chain); local = λ j b u s c d. catch_ext m h b u s (t.local j b u s c d) (λ p. (v p).local j b u s c d) }

  pub inside_catch : LocalInside m → ((p : ℕ) → LocalInside (h p)) → LocalInside (catch m h)
  inside_catch t v = record { on_chain = chain_catch t.on_chain (λ p. (v p).on_chain); local = λ j b u s c d. catch_ext m h b u s (t.local j b u s c d) (λ p. (v p).local j b u s c d) }

-- a choice by a value has what both its ways have
by_pick : {A : Type 0} {m k : Parser A} (P : Parser A → Type 0) (t : Bool) → P m → P k → P (pick t m k)
unfolding pick
by_pick P true a b = a
by_pick P false a b = b

module _ {A : Type 0} {m k : Parser A} where
  pub chain_pick : (t : Bool) → OnChain m → OnChain k → OnChain (pick t m k)
  chain_pick = by_pick OnChain

  pub keeps_pick : (t : Bool) → KeepsCut m → KeepsCut k → KeepsCut (pick t m k)
  keeps_pick = by_pick KeepsCut

  pub consumes_pick : (t : Bool) → Consumes m → Consumes k → Consumes (pick t m k)
  consumes_pick = by_pick Consumes

  pub local_pick : (t : Bool) → Local m → Local k → Local (pick t m k)
  local_pick = by_pick Local

-- a loop over a state
module _ {S : Type 0} (f : S → Parser S) (g : ℕ → S → S) where
  chain_iter_within : ((s : S) → OnChain (f s)) → (n j : ℕ) (s : S) (b : ℕ) (u : List ℕ) → Moves j b u (iter_within n f g s b u)
  unfolding iter_within
  chain_iter_within w zero j s b u = (here, refl)
  chain_iter_within w (suc n) j s b u = go (f s b u) refl ((w s).chain j b u) (chain_iter_within w n j)
    where
      go : (x : Reply S) → f s b u ≡ x → Moves j b u x → ((s : S) (b : ℕ) (u : List ℕ) → Moves j b u (iter_within n f g s b u)) → Moves j b u (iter_within (suc n) f g s b u)
      go (ok t c r) e p ih = rw (e, iter_within) (glue j b c u r p.0 p.1 (iter_within n f g t c r) (ih t c r))
      go (fail q) e p ih = rw (e, iter_within) (here, refl)
      go (stop i q) e p ih = rw (e, iter_within) tt

  cut_iter_within : ((s : S) → KeepsCut (f s)) → (n : ℕ) (s : S) (b : ℕ) (u : List ℕ) → Cut u → CutRest (iter_within n f g s b u)
  unfolding iter_within
  cut_iter_within w zero s b u d = d
  cut_iter_within w (suc n) s b u d = go (f s b u) refl ((w s).keeps b u d) (cut_iter_within w n)
    where
      go : (x : Reply S) → f s b u ≡ x → CutRest x → ((s : S) (b : ℕ) (u : List ℕ) → Cut u → CutRest (iter_within n f g s b u)) → CutRest (iter_within (suc n) f g s b u)
      go (ok t c r) e p ih = rw (e, iter_within) (ih t c r p)
      go (fail q) e p ih = rw (e, iter_within) d
      go (stop i q) e p ih = rw (e, iter_within) tt

  -- k: the depth
  iter_ext : (k : ℕ) → ((s : S) → OnChain (f s)) → ((s : S) → Consumes (f s)) → ((s : S) (b : ℕ) (u : List ℕ) → Clean k u → Cut u → CutRest (f s b u))
      → ((s : S) (b : ℕ) (u t : List ℕ) → Clean k u → Cut u → f s b (u ++ t) ≡ ext t (f s b u))
      → (n n' : ℕ) (s : S) (b : ℕ) (u t : List ℕ) → length u ≤ n → length u ≤ n' → Clean k u → Cut u → iter_within n' f g s b (u ++ t) ≡ ext t (iter_within n f g s b u)
  unfolding iter_within ext
  iter_ext k wk pg kp lc zero n' s b u t l l' c d = absurd (omega (arith, cut_length u d))
  iter_ext k wk pg kp lc (suc n) zero s b u t l l' c d = absurd (omega (arith, cut_length u d))
  iter_ext k wk pg kp lc (suc n) (suc n') s b u t l l' c d = go (f s b u) refl ((wk s).chain k b u) ((pg s).consumes b u) (kp s b u c d) (iter_ext k wk pg kp lc n n')
    where
      go : (y : Reply S) → f s b u ≡ y → Moves k b u y → Shorter u y → CutRest y
          → ((s : S) (b : ℕ) (u t : List ℕ) → length u ≤ n → length u ≤ n' → Clean k u → Cut u → iter_within n' f g s b (u ++ t) ≡ ext t (iter_within n f g s b u))
          → iter_within (suc n') f g s b (u ++ t) ≡ ext t (iter_within (suc n) f g s b u)
      go (ok a e r) q p h z ih = rw (lc s b u t c d, q, iter_within) (ih a e r t (omega arith) (omega arith) (resume p.0 c) z)
      go (fail e) q p h z ih = rw (lc s b u t c d, q, iter_within)
      go (stop i e) q p h z ih = rw (lc s b u t c d, q, iter_within)

inside_keep : {A : Type 0} {m : Parser A} → OnChain m → (k b : ℕ) (u : List ℕ) → Clean (suc k) u → Cut u → CutRest (m b u)
inside_keep {A} {m} w k b u c d = go (m b u) (w.chain (suc k) b u)
  where
    go : (x : Reply A) → Moves (suc k) b u x → CutRest x
    go (ok a e r) p = inside_cut r (to_suf p.0) (resume p.0 c) d
    go (fail e) p = tt
    go (stop i e) p = tt

module _ {S : Type 0} {f : S → Parser S} (g : ℕ → S → S) where
  pub chain_iter : ((s : S) → OnChain (f s)) → (s : S) → OnChain (iter f g s)
  unfolding iter
  chain_iter w s = record { chain = λ j b u. chain_iter_within f g w (suc (length u)) j s b u }

  pub keeps_iter : ((s : S) → KeepsCut (f s)) → (s : S) → KeepsCut (iter f g s)
  unfolding iter
  keeps_iter w s = record { keeps = λ b u d. cut_iter_within f g w (suc (length u)) s b u d }

  pub local_iter : ((s : S) → Local (f s)) → ((s : S) → KeepsCut (f s)) → ((s : S) → Consumes (f s)) → (s : S) → Local (iter f g s)
  unfolding iter
  local_iter t w v s = record {
    on_chain = chain_iter (λ s. (t s).on_chain) s;
    local = λ k b u a c d. iter_ext f g k (λ s. (t s).on_chain) v (λ s b u c d. (w s).keeps b u d) (λ s b u a c d. (t s).local k b u a c d) (suc (length u)) (suc (length (u ++ a))) s b u a (omega arith) (simp length-append (omega arith)) c d;
  }

  pub inside_iter : ((s : S) → LocalInside (f s)) → ((s : S) → Consumes (f s)) → (s : S) → LocalInside (iter f g s)
  unfolding iter
  inside_iter t v s = record {
    on_chain = chain_iter (λ s. (t s).on_chain) s;
    local = λ k b u a c d. iter_ext f g (suc k) (λ s. (t s).on_chain) v (λ s b u c d. inside_keep (t s).on_chain k b u c d) (λ s b u a c d. (t s).local k b u a c d) (suc (length u)) (suc (length (u ++ a))) s b u a (omega arith) (simp length-append (omega arith)) c d;
  }
