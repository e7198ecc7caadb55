-- The chain of a text: the places at which any parser can be, one after another, with the depth of braces.
-- A parser that succeeds ends on the chain of its start. A chain that comes to the end of the text at depth 0 meets no unclosed comment or string.
use Prim.Native.Nat.{ℕ, suc, ◌+◌, ◌<◌}
use mathlib.Core.Path.{◌≡◌, refl, sym}
use mathlib.Core.Bool.{Bool, true, false, ◌||◌}
use mathlib.Core.List.{List, [], ◌∷◌, ◌++◌}
use native.Mathlib.Omega.{arith}
use lib.Dec.{eqb}
use lib.ListN.{length}
use Rattle.lexing.specs.bytes.{quote, slash, plus, minus, is_letter, is_digit, is_space}
use Rattle.lexing.specs.reply.{Reply, ok, fail, stop, Parser}
use Rattle.lexing.specs.words.{parse_id}
use Rattle.lexing.specs.integers.{positive_integer, signed_integer}
use Rattle.lexing.specs.blanks.{whitespace_group}
use Rattle.lexing.specs.strings.{Escape, allowed, string_with}
use Rattle.lexing.proofs.Runs.{Cut, Suf, same, skip, suf_trans, suf_cut}
use Rattle.lexing.proofs.Onward.{Ends, Advances, advances_onward, parse_id_advances, integer_advances, signed_advances, group_advances, string_advances}

-- the one step from a place: after a token, into braces or out of them; none at the end of the text or at a token that is not whole
pub data Next : Type 0 where
  dead : Next
  goes opens closes : List ℕ → Next

unfoldable pub following : {A : Type 0} → Reply A → Next
following (ok a c r) = goes r
following (fail p) = dead
following (stop n p) = dead

-- any byte after a backslash
unfoldable pub any_escape : ℕ → Escape
any_escape x = allowed

unfoldable pub punctuation : ℕ → List ℕ → Next
punctuation x u = elim (eqb x 0x7b) [ true ↦ opens u | false ↦ elim (eqb x 0x7d) [ true ↦ closes u | false ↦ goes u ] ]

unfoldable pub token : ℕ → List ℕ → Next
token x u =
    elim (eqb x quote) [
      | true ↦ following (string_with any_escape 0 (x ∷ u))
      | false ↦ elim (eqb x plus || eqb x minus) [ true ↦ following (signed_integer 0 (x ∷ u)) | false ↦ punctuation x u ]
    ]

unfoldable pub next : List ℕ → Next
next [] = dead
next (x ∷ u) =
    elim (is_letter x) [
      | true ↦ following (parse_id 0 (x ∷ u))
      | false ↦
          elim (is_digit x) [
            | true ↦ following (positive_integer 0 (x ∷ u))
            | false ↦ elim (eqb x slash || is_space x) [ true ↦ following (whitespace_group 0 (x ∷ u)) | false ↦ token x u ]
          ]
    ]

-- from u at depth k to r at depth j
pub data To (j : ℕ) (r : List ℕ) : ℕ → List ℕ → Type 0 where
  here : To j r j r
  go_r : {k : ℕ} {u v : List ℕ} → next u ≡ goes v → To j r k v → To j r k u
  open_r : {k : ℕ} {u v : List ℕ} → next u ≡ opens v → To j r (suc k) v → To j r k u
  close_r : {k : ℕ} {u v : List ℕ} → next u ≡ closes v → To j r k v → To j r (suc k) u

abbrev pub Clean : ℕ → List ℕ → Type 0
Clean k u = To 0 [] k u

pub to_trans : {i j : ℕ} {r u : List ℕ} {k : ℕ} {v : List ℕ} → To j u k v → To i r j u → To i r k v
to_trans here q = q
to_trans (go_r e p) q = go_r e (to_trans p q)
to_trans (open_r e p) q = open_r e (to_trans p q)
to_trans (close_r e p) q = close_r e (to_trans p q)

clash : {n : Next} → next [] ≡ n → n ≡ dead
unfolding next
clash e = sym e

-- the chain is one: what has come to r goes on from r
pub resume : {j : ℕ} {r : List ℕ} {k : ℕ} {u : List ℕ} → To j r k u → Clean k u → Clean j r
resume here c = c
resume (go_r {v = v} e p) here = let z : ◌≡◌ {A = ℕ} 0 1 = cc (clash e) in absurd (omega arith)
resume (go_r {v = v} e p) (go_r {v = w} d c) = let q : w ≡ v = cc in resume p (rw q at c)
resume (go_r {v = v} e p) (open_r {v = w} d c) = let z : ◌≡◌ {A = ℕ} 0 1 = cc in absurd (omega arith)
resume (go_r {v = v} e p) (close_r {v = w} d c) = let z : ◌≡◌ {A = ℕ} 0 1 = cc in absurd (omega arith)
resume (open_r {v = v} e p) here = let z : ◌≡◌ {A = ℕ} 0 1 = cc (clash e) in absurd (omega arith)
resume (open_r {v = v} e p) (go_r {v = w} d c) = let z : ◌≡◌ {A = ℕ} 0 1 = cc in absurd (omega arith)
resume (open_r {v = v} e p) (open_r {v = w} d c) = let q : w ≡ v = cc in resume p (rw q at c)
resume (open_r {v = v} e p) (close_r {v = w} d c) = let z : ◌≡◌ {A = ℕ} 0 1 = cc in absurd (omega arith)
resume (close_r {v = v} e p) (go_r {v = w} d c) = let z : ◌≡◌ {A = ℕ} 0 1 = cc in absurd (omega arith)
resume (close_r {v = v} e p) (open_r {v = w} d c) = let z : ◌≡◌ {A = ℕ} 0 1 = cc in absurd (omega arith)
resume (close_r {v = v} e p) (close_r {v = w} d c) = let q : w ≡ v = cc in resume p (rw q at c)

-- inside braces the text is not empty
pub inside : (k : ℕ) → Clean (suc k) [] → ⊥
inside k (go_r e p) = let z : ◌≡◌ {A = ℕ} 0 1 = cc (clash e) in omega arith
inside k (open_r e p) = let z : ◌≡◌ {A = ℕ} 0 1 = cc (clash e) in omega arith
inside k (close_r e p) = let z : ◌≡◌ {A = ℕ} 0 1 = cc (clash e) in omega arith

-- a clean text is empty or its chain goes on
pub not_dead : (k : ℕ) (x : ℕ) (u : List ℕ) → Clean k (x ∷ u) → next (x ∷ u) ≡ dead → ⊥
not_dead k x u (go_r e p) d = let z : ◌≡◌ {A = ℕ} 0 1 = cc in omega arith
not_dead k x u (open_r e p) d = let z : ◌≡◌ {A = ℕ} 0 1 = cc in omega arith
not_dead k x u (close_r e p) d = let z : ◌≡◌ {A = ℕ} 0 1 = cc in omega arith

-- where a reply that is ok ends: on the chain, from depth i to depth j, with the offset counted on
abbrev pub MovesTo : {A : Type 0} → ℕ → ℕ → ℕ → List ℕ → Reply A → Type 0
MovesTo i j b u (ok a c r) = To j r i u × (c + length r ≡ b + length u)
MovesTo i j b u (fail p) = Unit {0}
MovesTo i j b u (stop n p) = Unit {0}

abbrev pub Moves : {A : Type 0} → ℕ → ℕ → List ℕ → Reply A → Type 0
Moves k b u x = MovesTo k k b u x

abbrev pub CutRest : {A : Type 0} → Reply A → Type 0
CutRest (ok a c r) = Cut r
CutRest (fail p) = Unit {0}
CutRest (stop n p) = Unit {0}

abbrev pub Shorter : {A : Type 0} → List ℕ → Reply A → Type 0
Shorter u (ok a c r) = length r < length u
Shorter u (fail p) = Unit {0}
Shorter u (stop n p) = Unit {0}

-- the reply with bytes appended to the rest
unfoldable pub ext : {A : Type 0} → List ℕ → Reply A → Reply A
ext s (ok a c r) = ok a c (r ++ s)
ext s (fail p) = fail p
ext s (stop n p) = stop n p

-- every step of the chain goes to a tail
abbrev SufN : List ℕ → Next → Type 0
SufN u dead = Unit {0}
SufN u (goes v) = Suf v u
SufN u (opens v) = Suf v u
SufN u (closes v) = Suf v u

following_suf : {A : Type 0} (b : ℕ) (u : List ℕ) (x : Reply A) → Ends b u x → SufN u (following x)
unfolding following
following_suf b u (ok a c r) e = e.0
following_suf b u (fail p) e = tt
following_suf b u (stop n p) e = tt

token_suf : {A : Type 0} {m : Parser A} → Advances m → (u : List ℕ) → SufN u (following (m 0 u))
token_suf {A} {m} w u = following_suf 0 u (m 0 u) ((advances_onward w).onward 0 u)

punctuation_suf : (x : ℕ) (u : List ℕ) → SufN (x ∷ u) (punctuation x u)
unfolding punctuation
punctuation_suf x u = go (eqb x 0x7b) refl (eqb x 0x7d) refl
  where
    go : (t : Bool) → eqb x 0x7b ≡ t → (t' : Bool) → eqb x 0x7d ≡ t' → SufN (x ∷ u) (punctuation x u)
    go true e t' e' = rw (e, punctuation) (skip x same)
    go false e true e' = rw (e, e', punctuation) (skip x same)
    go false e false e' = rw (e, e', punctuation) (skip x same)

other_suf : (x : ℕ) (u : List ℕ) → SufN (x ∷ u) (token x u)
unfolding token
other_suf x u = go (eqb x quote) refl (eqb x plus || eqb x minus) refl
  where
    go : (t : Bool) → eqb x quote ≡ t → (t' : Bool) → (eqb x plus || eqb x minus) ≡ t' → SufN (x ∷ u) (token x u)
    go true e t' e' = rw (e, token) (token_suf (string_advances any_escape) (x ∷ u))
    go false e true e' = rw (e, e', token) (token_suf signed_advances (x ∷ u))
    go false e false e' = rw (e, e', token) (punctuation_suf x u)

next_suf : (u : List ℕ) → SufN u (next u)
unfolding next
next_suf [] = tt
next_suf (x ∷ u) = go (is_letter x) refl (is_digit x) refl (eqb x slash || is_space x) refl
  where
    go : (t : Bool) → is_letter x ≡ t → (t' : Bool) → is_digit x ≡ t' → (t'' : Bool) → (eqb x slash || is_space x) ≡ t'' → SufN (x ∷ u) (next (x ∷ u))
    go true e t' e' t'' e'' = rw (e, next) (token_suf parse_id_advances (x ∷ u))
    go false e true e' t'' e'' = rw (e, e', next) (token_suf integer_advances (x ∷ u))
    go false e false e' true e'' = rw (e, e', e'', next) (token_suf group_advances (x ∷ u))
    go false e false e' false e'' = rw (e, e', e'', next) (other_suf x u)

pub to_suf : {j : ℕ} {r : List ℕ} {k : ℕ} {u : List ℕ} → To j r k u → Suf r u
to_suf here = same
to_suf (go_r {u = u} e p) = suf_trans (to_suf p) (rw e at (next_suf u))
to_suf (open_r {u = u} e p) = suf_trans (to_suf p) (rw e at (next_suf u))
to_suf (close_r {u = u} e p) = suf_trans (to_suf p) (rw e at (next_suf u))

-- inside braces the end of a step is a cut text again
pub inside_cut : {k : ℕ} {u : List ℕ} (r : List ℕ) → Suf r u → Clean (suc k) r → Cut u → Cut r
inside_cut [] s c d = absurd (inside _ c)
inside_cut (y ∷ r) s c d = suf_cut y r s d
