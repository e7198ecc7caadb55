-- Tests that are computed for every byte.
use mathlib.Core.Path.{◌≡◌, refl, ap, ◌∙◌}
use mathlib.Core.Bool.{Bool, true, false, ◌&&◌, not, false≢true}
use Prim.Native.Nat.{ℕ, zero, suc, ◌<◌}
use native.Mathlib.Omega.{arith}
use lib.Dec.{eqb}
use borrow.Author.Tests.{eqb-false}
use Rattle.lexing.proofs.Tests.{eq_of, and_left, and_right}

-- of the numbers below n
unfoldable pub every : ℕ → (ℕ → Bool) → Bool
every zero t = true
every (suc n) t = t n && every n t

pub every_at : (n : ℕ) (t : ℕ → Bool) → every n t ≡ true → (x : ℕ) → x < n → t x ≡ true
unfolding every
every_at zero t e x h = absurd (omega arith)
every_at (suc n) t e x h = go (eqb x n) refl (every_at n t (and_right (t n) (every n t) e) x)
  where
    go : (b : Bool) → eqb x n ≡ b → (x < n → t x ≡ true) → t x ≡ true
    go true q ih = ap t (eq_of x n q) ∙ and_left (t n) (every n t) e
    go false q ih = ih (omega (arith, eqb-false x n q))

-- two tests with one answer
abbrev pub same : Bool → Bool → Bool
same true b = b
same false b = not b

same_is : (a b : Bool) → same a b ≡ true → a ≡ b
same_is true true e = refl
same_is true false e = absurd (false≢true e)
same_is false true e = absurd (false≢true e)
same_is false false e = refl

pub alike_at : (s t : ℕ → Bool) → every 256 (λ x. same (s x) (t x)) ≡ true → (x : ℕ) → x < 256 → s x ≡ t x
alike_at s t e x h = same_is (s x) (t x) (every_at 256 (λ x. same (s x) (t x)) e x h)
