-- The value of an annotation is unescaped without a fault: its two escapes are among the four of a default string.
use Prim.Native.Nat.{ℕ, suc, ◌+◌, ◌-◌, ◌≤◌}
use mathlib.Core.Path.{◌≡◌, refl, sym, subst}
use mathlib.Core.Bool.{Bool, true, false}
use Rattle.std.specs.Prelude.{Some}
use mathlib.Core.List.{List, [], ◌∷◌}
use native.Mathlib.Omega.{arith}
use lib.Dec.{eqb}
use lib.ListN.{take, drop}
use Rattle.lexing.specs.bytes.{quote, backslash}
use Rattle.lexing.specs.reply.{Reply, ok, fail, stop}
use Rattle.lexing.specs.strings.{Span, span, string_rest, span_from, string_with, annotation_escape, quoted_string}
use Rattle.lexing.specs.unescaping.{escapes, lookup, escaped, Unescaped, gives, fault_at, first, unescape_from, escape_from, unescape}

abbrev Faultless : Unescaped → Type 0
Faultless (gives l) = Unit {0}
Faultless (fault_at k) = ⊥

first_faultless : (x : ℕ) (r : Unescaped) → Faultless r → Faultless (first x r)
unfolding first
first_faultless x (gives l) h = tt
first_faultless x (fault_at _) h = elim h [ ]

-- of a string from offset b on, where e says that the backslash at b has been seen: what is up to its closing quote, unescaped from offset k on
abbrev Clear : (k b : ℕ) (e : Bool) → List ℕ → Reply ℕ → Type 0
Clear k b false u (ok q c r) = (b ≤ q) × Faultless (unescape_from k (take (q - b) u))
Clear k b true u (ok q c r) = (suc b ≤ q) × Faultless (escape_from k (take (q - suc b) u))
Clear k b e u (fail p) = Unit {0}
Clear k b e u (stop n p) = Unit {0}

-- a byte before the closing quote
before : (x : ℕ) (u : List ℕ) (q b : ℕ) → suc b ≤ q → take (q - b) (x ∷ u) ≡ x ∷ take (q - suc b) u
before x u q b h = let z : q - b ≡ suc (q - suc b) = omega (arith, h) in rw z refl

-- a byte that is no quote and no backslash
plain_byte : (x k : ℕ) (l : List ℕ) → eqb x quote ≡ false → eqb x backslash ≡ false → Faultless (unescape_from (k + 1) l) → Faultless (unescape_from k (x ∷ l))
unfolding unescape_from
plain_byte x k l d e h = rw (d, e, unescape_from) (first_faultless x (unescape_from (k + 1) l) h)

passed : (x : ℕ) (u : List ℕ) (k b : ℕ) → eqb x quote ≡ false → eqb x backslash ≡ false → (y : Reply ℕ) → Clear (k + 1) (suc b) false u y → Clear k b false (x ∷ u) y
passed x u k b d e (ok q c r) h = (omega (arith, h.0), subst (λ (l : List ℕ). Faultless (unescape_from k l)) (sym (before x u q b h.0)) (plain_byte x k (take (q - suc b) u) d e h.1))
passed x u k b d e (fail p) h = tt
passed x u k b d e (stop n p) h = tt

-- a backslash
backslash_byte : (x k : ℕ) (l : List ℕ) → eqb x quote ≡ false → eqb x backslash ≡ true → Faultless (escape_from k l) → Faultless (unescape_from k (x ∷ l))
unfolding unescape_from
backslash_byte x k l d e h = rw (d, e, unescape_from) h

opened : (x : ℕ) (u : List ℕ) (k b : ℕ) → eqb x quote ≡ false → eqb x backslash ≡ true → (y : Reply ℕ) → Clear k b true u y → Clear k b false (x ∷ u) y
opened x u k b d e (ok q c r) h = (omega (arith, h.0), subst (λ (l : List ℕ). Faultless (unescape_from k l)) (sym (before x u q b h.0)) (backslash_byte x k (take (q - suc b) u) d e h.1))
opened x u k b d e (fail p) h = tt
opened x u k b d e (stop n p) h = tt

-- the byte after it, which stands for z
escaped_byte : (x z k : ℕ) (l : List ℕ) → escaped x ≡ Some z → Faultless (unescape_from (k + 2) l) → Faultless (escape_from k (x ∷ l))
unfolding escape_from
escaped_byte x z k l e h = rw (e, escape_from) (first_faultless z (unescape_from (k + 2) l) h)

meant : (x z : ℕ) (u : List ℕ) (k b : ℕ) → escaped x ≡ Some z → (y : Reply ℕ) → Clear (k + 2) (suc (suc b)) false u y → Clear k b true (x ∷ u) y
meant x z u k b e (ok q c r) h = (omega (arith, h.0), subst (λ (l : List ℕ). Faultless (escape_from k l)) (sym (before x u q (suc b) h.0)) (escaped_byte x z k (take (q - suc (suc b)) u) e h.1))
meant x z u k b e (fail p) h = tt
meant x z u k b e (stop n p) h = tt

quote_escaped : (x : ℕ) → eqb x quote ≡ true → escaped x ≡ Some quote
unfolding escaped lookup escapes
quote_escaped x e = rw (e, lookup) refl

backslash_escaped : (x : ℕ) → eqb x quote ≡ false → eqb x backslash ≡ true → escaped x ≡ Some backslash
unfolding escaped lookup escapes
backslash_escaped x d e = rw (d, e, lookup) refl

rest_clear : (u : List ℕ) (e : Bool) (k b : ℕ) → Clear k b e u (string_rest annotation_escape e b u)
unfolding string_rest annotation_escape unescape_from
rest_clear [] true k b = tt
rest_clear [] false k b = tt
rest_clear (x ∷ u) true k b = go (eqb x quote) refl (eqb x backslash) refl (rest_clear u false)
  where
    go : (t : Bool) → eqb x quote ≡ t → (s : Bool) → eqb x backslash ≡ s → ((k b : ℕ) → Clear k b false u (string_rest annotation_escape false b u)) → Clear k b true (x ∷ u) (string_rest annotation_escape true b (x ∷ u))
    go true d s e ih = rw (d, string_rest) (meant x quote u k b (quote_escaped x d) (string_rest annotation_escape false (suc (suc b)) u) (ih (k + 2) (suc (suc b))))
    go false d true e ih = rw (d, e, string_rest) (meant x backslash u k b (backslash_escaped x d e) (string_rest annotation_escape false (suc (suc b)) u) (ih (k + 2) (suc (suc b))))
    go false d false e ih = rw (d, e, string_rest) tt
rest_clear (x ∷ u) false k b = go (eqb x quote) refl (eqb x backslash) refl (rest_clear u)
  where
    go : (t : Bool) → eqb x quote ≡ t → (s : Bool) → eqb x backslash ≡ s → ((e : Bool) (k b : ℕ) → Clear k b e u (string_rest annotation_escape e b u)) → Clear k b false (x ∷ u) (string_rest annotation_escape false b (x ∷ u))
    go true d s e ih = rw (d, string_rest) (omega arith, let z : b - b ≡ 0 = omega arith in rw z tt)
    go false d true e ih = rw (d, e, string_rest) (opened x u k b d e (string_rest annotation_escape true b u) (ih true k b))
    go false d false e ih = rw (d, e, string_rest) (passed x u k b d e (string_rest annotation_escape false (suc b) u) (ih false (k + 1) (suc b)))

-- the bytes of a span are unescaped without a fault
abbrev Unescapes : ℕ → List ℕ → Reply Span → Type 0
Unescapes b u (ok (span o n) c r) = Faultless (unescape (take n (drop (o - b) u)))
Unescapes b u (fail p) = Unit {0}
Unescapes b u (stop n p) = Unit {0}

span_clear : (x b : ℕ) (u : List ℕ) (y : Reply ℕ) → Clear 0 (suc b) false u y → Unescapes b (x ∷ u) (span_from (suc b) y)
unfolding span_from unescape
span_clear x b u (ok q c r) h = let z : suc b - b ≡ 1 = omega arith in rw z h.1
span_clear x b u (fail p) h = tt
span_clear x b u (stop n p) h = tt

-- what `quoted_string` reads is unescaped without a fault
pub quoted_unescapes : (b : ℕ) (u : List ℕ) → Unescapes b u (quoted_string b u)
unfolding quoted_string string_with
quoted_unescapes b [] = tt
quoted_unescapes b (x ∷ u) = go (eqb x quote) refl
  where
    go : (t : Bool) → eqb x quote ≡ t → Unescapes b (x ∷ u) (quoted_string b (x ∷ u))
    go true e = rw (e, string_with) (span_clear x b u (string_rest annotation_escape false (suc b) u) (rest_clear u false 0 (suc b)))
    go false e = rw (e, string_with) tt
