-- What a parser answers, and how parsers are put together. The names are nom's where nom has one.
use Rattle.std.specs.Prelude.{ℕ, zero, suc, max, Bool, true, false, List, [], ◌∷◌, length}
use Rattle.std.proofs.Math.Option.{Option, none, some}

-- ok: the value, the next offset and the rest of the text; fail: the refused place; stop: a number and its place, where the Rust panics
pub data Reply (A : Type 0) : Type 0 where
  ok : A → ℕ → List ℕ → Reply A
  fail : ℕ → Reply A
  stop : ℕ → ℕ → Reply A

-- of the offset and the rest of the text
abbrev pub Parser : Type 0 → Type 0
Parser A = ℕ → List ℕ → Reply A

-- a value; no text is read
unfoldable pub ret : {A : Type 0} → A → Parser A
ret a = λ b u. ok a b u

-- `tuple`: one after the other; the first that is not ok ends it (the place is that of the first unmatched element)
infixl 10 ◌>>=◌ ◌>>◌
unfoldable pub ◌>>=◌ : {A B : Type 0} → Parser A → (A → Parser B) → Parser B
◌>>=◌ m k = λ b u. elim (m b u) [ ok a c r ↦ k a c r | fail p ↦ fail p | stop n p ↦ stop n p ]

unfoldable pub ◌>>◌ : {A B : Type 0} → Parser A → Parser B → Parser B
◌>>◌ m k = m >>= λ a. k

-- what to do where a parser fails, by the place of its failure
unfoldable pub catch : {A : Type 0} → Parser A → (ℕ → Parser A) → Parser A
catch m h = λ b u. elim (m b u) [ ok a c r ↦ ok a c r | fail p ↦ h p b u | stop n p ↦ stop n p ]

-- `opt`: a failed optional part passes no place on
unfoldable pub opt : {A : Type 0} → Parser A → Parser (Option A)
opt m = λ b u. elim (m b u) [ ok a c r ↦ ok (some a) c r | fail p ↦ ok none b u | stop n p ↦ stop n p ]

-- `alt` of two, by GreedyError: the place is the furthest
infixr 12 ◌or◌
unfoldable pub no_nearer : {A : Type 0} → ℕ → Reply A → Reply A
no_nearer p (ok a c r) = ok a c r
no_nearer p (fail q) = fail (max p q)
no_nearer p (stop n q) = stop n q

unfoldable pub ◌or◌ : {A : Type 0} → Parser A → Parser A → Parser A
◌or◌ m k = λ b u. elim (m b u) [ ok a c r ↦ ok a c r | fail p ↦ no_nearer p (k b u) | stop n p ↦ stop n p ]

-- `many0`: until a try fails, which passes no place on. Each turn of use reads a byte, so one turn more than there are bytes is enough
unfoldable pub prepend : {A : Type 0} → A → Reply (List A) → Reply (List A)
prepend a (ok l c r) = ok (a ∷ l) c r
prepend a (fail p) = fail p
prepend a (stop n p) = stop n p

unfoldable pub many_within : {A : Type 0} → ℕ → Parser A → Parser (List A)
many_within zero m = λ b u. ok [] b u
many_within (suc n) m =
    λ b u. elim (m b u) [ ok a c r ↦ prepend a (many_within n m c r) | fail p ↦ ok [] b u | stop k p ↦ stop k p ]

unfoldable pub many0 : {A : Type 0} → Parser A → Parser (List A)
many0 m = λ b u. many_within (suc (length u)) m b u

-- a `loop` over a state, until a try fails; g says what the failure's place does to the state
unfoldable pub iter_within : {S : Type 0} → ℕ → (S → Parser S) → (ℕ → S → S) → S → Parser S
iter_within zero f g s = λ b u. ok s b u
iter_within (suc n) f g s =
    λ b u. elim (f s b u) [ ok t c r ↦ iter_within n f g t c r | fail p ↦ ok (g p s) b u | stop k p ↦ stop k p ]

unfoldable pub iter : {S : Type 0} → (S → Parser S) → (ℕ → S → S) → S → Parser S
iter f g s = λ b u. iter_within (suc (length u)) f g s b u

-- the state as it was
unfoldable pub keep : {S : Type 0} → ℕ → S → S
keep p s = s

-- the offset
unfoldable pub position : Parser ℕ
position = λ b u. ok b b u

unfoldable pub fail_at : {A : Type 0} → ℕ → Parser A
fail_at p = λ b u. fail p

unfoldable pub stop_at : {A : Type 0} → ℕ → ℕ → Parser A
stop_at n p = λ b u. stop n p

-- by a test
unfoldable pub pick : {A : Type 0} → Bool → Parser A → Parser A → Parser A
pick true m k = m
pick false m k = k
