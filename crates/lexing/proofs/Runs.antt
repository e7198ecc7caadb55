-- Texts that end at a cut, and runs of bytes in them: what is appended is not looked at.
use Prim.Native.Nat.{ℕ, ◌+◌, ◌≤◌}
use mathlib.Core.Path.{◌≡◌, refl, sym, ◌∙◌, ap}
use mathlib.Core.Bool.{Bool, true, false, true≢false}
use mathlib.Core.Logic.{◌⊎◌, inl, inr}
use mathlib.Core.List.{List, [], ◌∷◌, ◌++◌}
use native.Mathlib.Omega.{arith}
use lib.ListN.{length}
use Rattle.lexing.specs.bytes.{list_take_while, list_drop_while}

-- not empty, the last byte is }, and the byte before it, if any, is LF
abbrev pub Cut : List ℕ → Type 0
Cut [] = ⊥
Cut (x ∷ []) = x ≡ 125
Cut (x ∷ y ∷ []) = (x ≡ 10) × (y ≡ 125)
Cut (x ∷ y ∷ z ∷ u) = Cut (y ∷ z ∷ u)

pub cut_tail : (x y : ℕ) (u : List ℕ) → Cut (x ∷ y ∷ u) → Cut (y ∷ u)
cut_tail x y [] c = c.1
cut_tail x y (z ∷ u) c = c

-- r is a tail of u
pub data Suf (r : List ℕ) : List ℕ → Type 0 where
  same : Suf r r
  skip : (x : ℕ) {u : List ℕ} → Suf r u → Suf r (x ∷ u)

pub suf_trans : {r u v : List ℕ} → Suf r u → Suf u v → Suf r v
suf_trans a same = a
suf_trans a (skip x b) = skip x (suf_trans a b)

pub suf_length : {r u : List ℕ} → Suf r u → length r ≤ length u
suf_length {r} same = omega arith
suf_length (skip x s) = let h = suf_length s in omega arith

pub suf_cut : (y : ℕ) (r : List ℕ) {u : List ℕ} → Suf (y ∷ r) u → Cut u → Cut (y ∷ r)
suf_cut y r same c = c
suf_cut y r (skip x {u = []} s) c = absurd (none s)
  where
    none : Suf (y ∷ r) [] → ⊥
    none s = let h = suf_length s in omega arith
suf_cut y r (skip x {u = z ∷ u} s) c = suf_cut y r s (cut_tail x z u c)

-- some byte fails the test
abbrev pub Has : (ℕ → Bool) → List ℕ → Type 0
Has f [] = ⊥
Has f (x ∷ u) = (f x ≡ false) ⊎ Has f u

pub cut_has : (f : ℕ → Bool) → f 125 ≡ false → (u : List ℕ) → Cut u → Has f u
cut_has f e [] c = c
cut_has f e (x ∷ []) c = inl (ap f c ∙ e)
cut_has f e (x ∷ y ∷ u) c = inr (cut_has f e (y ∷ u) (cut_tail x y u c))

-- in a text of two bytes or more, LF fails it
pub cut_has_lf : (f : ℕ → Bool) → f 10 ≡ false → (x y : ℕ) (u : List ℕ) → Cut (x ∷ y ∷ u) → Has f (x ∷ y ∷ u)
cut_has_lf f e x y [] c = inl (ap f c.0 ∙ e)
cut_has_lf f e x y (z ∷ u) c = inr (cut_has_lf f e y z u c)

pub has_tail : (f : ℕ → Bool) (x : ℕ) (u : List ℕ) → f x ≡ true → Has f (x ∷ u) → Has f u
has_tail f x u e (inl d) = absurd (true≢false (sym e ∙ d))
has_tail f x u e (inr h) = h

pub list_take_while_app : (f : ℕ → Bool) (u s : List ℕ) → Has f u → list_take_while f (u ++ s) ≡ list_take_while f u
unfolding list_take_while
list_take_while_app f [] s h = absurd h
list_take_while_app f (x ∷ u) s h = go (f x) refl (list_take_while_app f u s)
  where
    go : (t : Bool) → f x ≡ t → (Has f u → list_take_while f (u ++ s) ≡ list_take_while f u) → list_take_while f (x ∷ u ++ s) ≡ list_take_while f (x ∷ u)
    go true e k = rw (e, list_take_while) (ap (λ l. x ∷ l) (k (has_tail f x u e h)))
    go false e k = rw (e, list_take_while)

pub list_drop_while_app : (f : ℕ → Bool) (u s : List ℕ) → Has f u → list_drop_while f (u ++ s) ≡ list_drop_while f u ++ s
unfolding list_drop_while
list_drop_while_app f [] s h = absurd h
list_drop_while_app f (x ∷ u) s h = go (f x) refl (list_drop_while_app f u s)
  where
    go : (t : Bool) → f x ≡ t → (Has f u → list_drop_while f (u ++ s) ≡ list_drop_while f u ++ s) → list_drop_while f (x ∷ u ++ s) ≡ list_drop_while f (x ∷ u) ++ s
    go true e k = rw (e, list_drop_while) (k (has_tail f x u e h))
    go false e k = rw (e, list_drop_while)

pub list_drop_while_suf : (f : ℕ → Bool) (u : List ℕ) → Suf (list_drop_while f u) u
unfolding list_drop_while
list_drop_while_suf f [] = same
list_drop_while_suf f (x ∷ u) = go (f x) refl (list_drop_while_suf f u)
  where
    go : (t : Bool) → f x ≡ t → Suf (list_drop_while f u) u → Suf (list_drop_while f (x ∷ u)) (x ∷ u)
    go true e k = rw (e, list_drop_while) (skip x k)
    go false e k = rw (e, list_drop_while) same

-- the run and the rest make the whole
pub run_length : (f : ℕ → Bool) (u : List ℕ) → length (list_take_while f u) + length (list_drop_while f u) ≡ length u
unfolding list_take_while list_drop_while
run_length f [] = refl
run_length f (x ∷ u) = go (f x) refl (run_length f u)
  where
    go : (t : Bool) → f x ≡ t → length (list_take_while f u) + length (list_drop_while f u) ≡ length u
        → length (list_take_while f (x ∷ u)) + length (list_drop_while f (x ∷ u)) ≡ length (x ∷ u)
    go true e k = rw (e, list_take_while, list_drop_while) (omega arith)
    go false e k = rw (e, list_take_while, list_drop_while) (omega arith)

-- in a text that ends at a cut the rest of a run is not empty
pub list_drop_while_cut : (f : ℕ → Bool) → f 125 ≡ false → (u : List ℕ) → Cut u → Cut (list_drop_while f u)
unfolding list_drop_while
list_drop_while_cut f e [] c = c
list_drop_while_cut f e (x ∷ []) c = rw (ap f c ∙ e, list_drop_while) c
list_drop_while_cut f e (x ∷ y ∷ u) c = go (f x) refl (list_drop_while_cut f e (y ∷ u) (cut_tail x y u c))
  where
    go : (t : Bool) → f x ≡ t → Cut (list_drop_while f (y ∷ u)) → Cut (list_drop_while f (x ∷ y ∷ u))
    go false d k = rw (d, list_drop_while) c
    go true d k = rw (d, list_drop_while) k

pub tail_cut : (f : ℕ → Bool) → f 125 ≡ false → (x : ℕ) (u : List ℕ) → f x ≡ true → Cut (x ∷ u) → Cut u
tail_cut f e x [] h c = absurd (true≢false (sym h ∙ ap f c ∙ e))
tail_cut f e x (y ∷ u) h c = cut_tail x y u c

pub list_drop_while_has : (f : ℕ → Bool) (u : List ℕ) → Has f u → (y : ℕ) × ((r : List ℕ) × (list_drop_while f u ≡ y ∷ r))
unfolding list_drop_while
list_drop_while_has f [] h = absurd h
list_drop_while_has f (x ∷ u) h = go (f x) refl (list_drop_while_has f u)
  where
    go : (t : Bool) → f x ≡ t → (Has f u → (y : ℕ) × ((r : List ℕ) × (list_drop_while f u ≡ y ∷ r))) → (y : ℕ) × ((r : List ℕ) × (list_drop_while f (x ∷ u) ≡ y ∷ r))
    go false e k = (x, (u, rw (e, list_drop_while)))
    go true e k = let z = k (has_tail f x u e h) in (z.0, (z.1.0, rw (e, list_drop_while) z.1.1))
