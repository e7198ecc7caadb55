-- Where integers and strings fail.
use mathlib.Core.Path.{◌≡◌, refl}
use mathlib.Core.List.{List, [], ◌∷◌}
use mathlib.Core.Bool.{Bool, true, false}
use Prim.Native.Nat.{ℕ, suc, ◌≤◌, ◌<◌}
use native.Mathlib.Omega.{arith}
use lib.Dec.{leb, eqb}
use Rattle.lexing.specs.bytes.{is_digit, plus, minus, quote, backslash}
use Rattle.lexing.specs.reply.{Reply, ok, fail, stop, Parser, catch}
use Rattle.lexing.specs.integers.{u64_max, fitting, hex_integer, decimal_integer, positive_integer, Signed, largest, in_range, after_sign, signed_integer}
use Rattle.lexing.specs.strings.{Span, Escape, allowed, forbidden, panics, string_rest, span_from, string_with, annotation_escape, quoted_string, default_escape, default_string}
use Rattle.lexing.proofs.TokenRuns.{digits_nil, digits_yes, digits_no}

-- an integer fails at its start
abbrev pub AtStart : ℕ → Reply ℕ → Type 0
AtStart b (ok a c r) = Unit {0}
AtStart b (fail p) = p ≡ b
AtStart b (stop n p) = Unit {0}

fitting_place : (b v c : ℕ) (r : List ℕ) → AtStart b (fitting b v c r)
unfolding fitting
fitting_place b v c r = go (leb v u64_max) refl
  where
    go : (t : Bool) → leb v u64_max ≡ t → AtStart b (fitting b v c r)
    go true e = rw (e, fitting) tt
    go false e = rw (e, fitting) tt

decimal_place : (b : ℕ) (u : List ℕ) → AtStart b (decimal_integer b u)
decimal_place b [] = rw (digits_nil b) refl
decimal_place b (x ∷ u) = go (is_digit x) refl
  where
    go : (t : Bool) → is_digit x ≡ t → AtStart b (decimal_integer b (x ∷ u))
    go true e = rw (digits_yes b x u e) (fitting_place b _ _ _)
    go false e = rw (digits_no b x u e) refl

catch_place : (m : Parser ℕ) (h : ℕ → Parser ℕ) (b : ℕ) (u : List ℕ) → ((p : ℕ) → AtStart b (h p b u)) → AtStart b (catch m h b u)
unfolding catch
catch_place m h b u v = go (m b u) refl
  where
    go : (x : Reply ℕ) → m b u ≡ x → AtStart b (catch m h b u)
    go (ok a c r) e = rw (e, catch) tt
    go (fail p) e = rw (e, catch) (v p)
    go (stop n p) e = rw (e, catch) tt

pub integer_place : (b : ℕ) (u : List ℕ) → AtStart b (positive_integer b u)
unfolding positive_integer
integer_place b u = catch_place hex_integer (λ p. decimal_integer) b u (λ p. decimal_place b u)

-- a signed one too, and it never stops
abbrev pub SignedPlace : ℕ → Reply Signed → Type 0
SignedPlace b (ok a c r) = Unit {0}
SignedPlace b (fail p) = p ≡ b
SignedPlace b (stop n p) = ⊥

range_place : (m : Bool) (b v c : ℕ) (r : List ℕ) → SignedPlace b (in_range m b v c r)
unfolding in_range
range_place m b v c r = go (leb v (largest m)) refl
  where
    go : (t : Bool) → leb v (largest m) ≡ t → SignedPlace b (in_range m b v c r)
    go true e = rw (e, in_range) tt
    go false e = rw (e, in_range) refl

sign_place : (m : Bool) (b : ℕ) (u : List ℕ) → SignedPlace b (after_sign m b u)
unfolding after_sign
sign_place m b [] = refl
sign_place m b (y ∷ u) = go (is_digit y) refl
  where
    go : (t : Bool) → is_digit y ≡ t → SignedPlace b (after_sign m b (y ∷ u))
    go true e = rw (e, after_sign) (range_place m b _ _ _)
    go false e = rw (e, after_sign) refl

pub signed_place : (b : ℕ) (u : List ℕ) → SignedPlace b (signed_integer b u)
unfolding signed_integer
signed_place b [] = refl
signed_place b (x ∷ u) = go (eqb x minus) refl (eqb x plus) refl
  where
    go : (t : Bool) → eqb x minus ≡ t → (s : Bool) → eqb x plus ≡ s → SignedPlace b (signed_integer b (x ∷ u))
    go true e s d = rw (e, signed_integer) (sign_place true b u)
    go false e true d = rw (e, d, signed_integer) (sign_place false b u)
    go false e false d = rw (e, d, signed_integer) refl

-- a string ends after its opening, and fails at its start or after it
abbrev RestPlace : ℕ → Reply ℕ → Type 0
RestPlace b (ok a c r) = b < c
RestPlace b (fail p) = b ≤ p
RestPlace b (stop n p) = Unit {0}

later : (b d : ℕ) (x : Reply ℕ) → b ≤ d → RestPlace d x → RestPlace b x
later b d (ok a c r) h p = omega (arith, h, p)
later b d (fail q) h p = omega (arith, h, p)
later b d (stop n q) h p = tt

rest_place : (f : ℕ → Escape) (u : List ℕ) (e : Bool) (b : ℕ) → RestPlace b (string_rest f e b u)
unfolding string_rest
rest_place f [] true b = omega arith
rest_place f [] false b = omega arith
rest_place f (x ∷ u) true b = go (f x) refl (rest_place f u false)
  where
    go : (t : Escape) → f x ≡ t → ((b : ℕ) → RestPlace b (string_rest f false b u)) → RestPlace b (string_rest f true b (x ∷ u))
    go allowed e ih = rw (e, string_rest) (later b (suc (suc b)) (string_rest f false (suc (suc b)) u) (omega arith) (ih (suc (suc b))))
    go forbidden e ih = rw (e, string_rest) (omega arith)
    go panics e ih = rw (e, string_rest) tt
rest_place f (x ∷ u) false b = go (eqb x quote) refl (eqb x backslash) refl (rest_place f u)
  where
    go : (t : Bool) → eqb x quote ≡ t → (s : Bool) → eqb x backslash ≡ s → ((s : Bool) (b : ℕ) → RestPlace b (string_rest f s b u)) → RestPlace b (string_rest f false b (x ∷ u))
    go true e s d ih = rw (e, string_rest) (omega arith)
    go false e true d ih = rw (e, d, string_rest) (ih true b)
    go false e false d ih = rw (e, d, string_rest) (later b (suc b) (string_rest f false (suc b) u) (omega arith) (ih false (suc b)))

abbrev pub StringPlace : ℕ → Reply Span → Type 0
StringPlace b (ok a c r) = suc b < c
StringPlace b (fail p) = b ≤ p
StringPlace b (stop n p) = Unit {0}

span_place : (b : ℕ) (x : Reply ℕ) → RestPlace (suc b) x → StringPlace b (span_from (suc b) x)
unfolding span_from
span_place b (ok a c r) p = p
span_place b (fail q) p = omega (arith, p)
span_place b (stop n q) p = tt

pub string_place : (f : ℕ → Escape) (b : ℕ) (u : List ℕ) → StringPlace b (string_with f b u)
unfolding string_with
string_place f b [] = omega arith
string_place f b (x ∷ u) = go (eqb x quote) refl
  where
    go : (t : Bool) → eqb x quote ≡ t → StringPlace b (string_with f b (x ∷ u))
    go true e = rw (e, string_with) (span_place b (string_rest f false (suc b) u) (rest_place f u false (suc b)))
    go false e = rw (e, string_with) (omega arith)

pub default_string_place : (b : ℕ) (u : List ℕ) → StringPlace b (default_string b u)
unfolding default_string
default_string_place = string_place default_escape

pub quoted_string_place : (b : ℕ) (u : List ℕ) → StringPlace b (quoted_string b u)
unfolding quoted_string
quoted_string_place = string_place annotation_escape
