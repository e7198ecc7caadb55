-- What unescaping returns fits below the number of a refusal.
use mathlib.Core.Path.{◌≡◌, refl, sym, ap, ◌∙◌}
use mathlib.Core.Bool.{Bool, true, false}
use mathlib.Core.List.{List}
use Prim.Native.Nat.{ℕ, ◌+◌, ◌*◌, ◌≤◌}
use native.Mathlib.Omega.{arith}
use lib.Dec.{leb}
use lib.ListN.{length}
use Rattle.lexing.specs.outcomes.{Outcome, refused, fitted, returned, afterwards}
use Rattle.lexing.specs.unescaping.{Unescaped, gives, fault_at, unescape, into, outcome}
use Rattle.lexing.proofs.unescaping.Laws.{never_longer, fault_inside}
use Rattle.matter_idl.specs.interface.{number_unit, value_limit, answer_of, unescaping}

-- the value is the count of the bytes that come out or the place of a fault, and neither is past the part
pub value_within : (u : List ℕ) (n : ℕ) → (returned (outcome u n)).1 ≤ length u
unfolding outcome into fitted returned
value_within u n = go (unescape u) refl
  where
    go : (r : Unescaped) → unescape u ≡ r → (returned (into n r)).1 ≤ length u
    go (fault_at k) e = omega (arith, fault_inside u k e)
    go (gives l) e = by (leb (length l) n) refl
      where
        by : (t : Bool) → leb (length l) n ≡ t → (returned (into n (gives l))).1 ≤ length u
        by true f = rw (f, fitted) (never_longer u l e)
        by false f = rw (f, fitted) (never_longer u l e)

-- by the part's length
module _ (u : List ℕ) (n : ℕ) where
  pub too_long : leb (length u) value_limit ≡ false → unescaping u n ≡ refused 1 value_limit
  unfolding unescaping
  too_long e = rw (e, unescaping)

  pub not_long : leb (length u) value_limit ≡ true → unescaping u n ≡ outcome u n
  unfolding unescaping
  not_long e = rw (e, unescaping)

  -- the number and the value that are answered
  module _ (e : leb (length u) value_limit ≡ true) {k v : ℕ} (h : (k, v) ≡ returned (outcome u n)) where
    pub value_fits : length u ≤ value_limit → v ≤ value_limit
    value_fits l = let y : v ≡ (returned (outcome u n)).1 = ap (λ (p : ℕ × ℕ). p.1) h in omega (arith, y, value_within u n, l)

    pub told_result : {x : ℕ} → x ≡ k * number_unit + v → x ≡ answer_of (unescaping u n)
    unfolding answer_of
    told_result d = d ∙ (ap (λ (p : ℕ × ℕ). p.0 * number_unit + p.1) h ∙ ap answer_of (sym (not_long e)))

  pub told_left : leb (length u) value_limit ≡ true → (out : List ℕ) {new : List ℕ} → new ≡ afterwards (outcome u n) out → new ≡ afterwards (unescaping u n) out
  told_left e out h = h ∙ ap (λ (o : Outcome). afterwards o out) (sym (not_long e))
