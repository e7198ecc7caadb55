-- Choices: what `_or_` gives where it is known of all tries, or of all but one, that they fail.
use mathlib.Core.Path.{◌≡◌, refl, sym, ap, ◌∙◌}
use mathlib.Core.Logic.{◌⊎◌, inl, inr}
use mathlib.Core.Bool.{Bool, true, false}
use mathlib.Core.List.{List, [], ◌∷◌}
use Prim.Native.Nat.{ℕ, ◌+◌, ◌≤◌, max}
use native.Mathlib.Omega.{arith}
use Rattle.lexing.specs.reply.{Reply, ok, fail, stop, Parser, ◌or◌, no_nearer}
use Rattle.lexing.proofs.Shift.{shift_reply, Shifts}

-- a try that fails leaves the next, whose place is then no nearer
pub or_fail : {A : Type 0} (m k : Parser A) {b p : ℕ} {u : List ℕ} → m b u ≡ fail p → (m or k) b u ≡ no_nearer p (k b u)
unfolding ◌or◌
or_fail m k e = rw (e, ◌or◌)

pub or_stop : {A : Type 0} (m k : Parser A) (b : ℕ) (u : List ℕ) (n p : ℕ) → stop n p ≡ m b u → stop n p ≡ (m or k) b u
unfolding ◌or◌
or_stop m k b u n p e = rw (sym e, ◌or◌)

pub or_lost : {A : Type 0} (m k : Parser A) {b p q : ℕ} {u : List ℕ} → m b u ≡ fail p → k b u ≡ fail q → (m or k) b u ≡ fail (max p q)
unfolding no_nearer
or_lost m k {p = p} e f = or_fail m k e ∙ ap (no_nearer p) f

pub or_both : {A : Type 0} (m k : Parser A) {b p : ℕ} {u : List ℕ} → m b u ≡ fail p → k b u ≡ fail p → (m or k) b u ≡ fail p
or_both m k {p = p} e f = let z : max p p ≡ p = omega arith in or_lost m k e f ∙ ap fail z

-- a try that fails at the start adds no place
abbrev pub Past : {A : Type 0} → ℕ → Reply A → Type 0
Past b (ok a c r) = Unit {0}
Past b (fail p) = b ≤ p
Past b (stop n p) = Unit {0}

pub past_start : {A : Type 0} (b : ℕ) (X : Reply A) → Past b X → X ≡ no_nearer b X
unfolding no_nearer
past_start b (ok a c r) p = refl
past_start b (fail q) p = let z : q ≡ max b q = omega arith in ap fail z
past_start b (stop n q) p = refl

pub or_past : {A : Type 0} (m k : Parser A) (b : ℕ) (u : List ℕ) (X : Reply A) → fail b ≡ m b u → Past b X → X ≡ k b u → X ≡ (m or k) b u
or_past m k b u X d p e = past_start b X p ∙ (ap (no_nearer b) e ∙ sym (or_fail m k (sym d)))

-- Tries one after the other, each of which is the one that is kept or fails at a place.
pub data End : Type 0 where
  kept : End
  lost : ℕ → End

abbrev pub ends : {A : Type 0} → Reply A → End → Reply A
ends X kept = X
ends X (lost p) = fail p

pub data Tries {A : Type 0} (b : ℕ) (u : List ℕ) (X : Reply A) : Parser A → List End → Type 0 where
  last : {m : Parser A} {e : End} → m b u ≡ ends X e → Tries b u X m (e ∷ [])
  more : (m : Parser A) {k : Parser A} {e : End} {es : List End} → m b u ≡ ends X e → Tries b u X k es → Tries b u X (m or k) (e ∷ es)

-- the furthest place of those that fail, and whether one is kept
abbrev furthest : List End → ℕ
furthest [] = 0
furthest (kept ∷ es) = furthest es
furthest (lost p ∷ es) = max p (furthest es)

abbrev pub keeps : List End → Bool
keeps [] = false
keeps (kept ∷ es) = true
keeps (lost p ∷ es) = keeps es

-- what they leave: the one that is kept, its place no nearer than theirs
abbrev pub left : {A : Type 0} → Bool → ℕ → Reply A → Reply A
left true n X = no_nearer n X
left false n X = fail n

further_none : {A : Type 0} (X : Reply A) → X ≡ no_nearer 0 X
unfolding no_nearer
further_none (ok a c r) = refl
further_none (fail p) = let z : p ≡ max 0 p = omega arith in ap fail z
further_none (stop n p) = refl

-- a value has no place
pub further_ok : {A : Type 0} (q : ℕ) (X : Reply A) {v : A} {c : ℕ} {r : List ℕ} → ok v c r ≡ no_nearer q X → ok v c r ≡ X
unfolding no_nearer
further_ok q (ok v c r) e = e
further_ok q (fail p) e = let z : ◌≡◌ {A = ℕ} 0 1 = cc in absurd (omega arith)
further_ok q (stop n p) e = let z : ◌≡◌ {A = ℕ} 0 1 = cc in absurd (omega arith)

pub ok_further : {A : Type 0} (q : ℕ) {X : Reply A} {v : A} {c : ℕ} {r : List ℕ} → ok v c r ≡ X → ok v c r ≡ no_nearer q X
unfolding no_nearer
ok_further q e = ap (no_nearer q) e

further_twice : {A : Type 0} (p n : ℕ) (X : Reply A) → no_nearer p (no_nearer n X) ≡ no_nearer (max p n) X
unfolding no_nearer
further_twice p n (ok a c r) = refl
further_twice p n (fail q) = let z : max p (max n q) ≡ max (max p n) q = omega arith in ap fail z
further_twice p n (stop i q) = refl

past_lost : {A : Type 0} (t : Bool) (p n : ℕ) (X : Reply A) → no_nearer p (left t n X) ≡ left t (max p n) X
unfolding no_nearer
past_lost true p n X = further_twice p n X
past_lost false p n X = refl

before_rest : {A : Type 0} (m k : Parser A) (b : ℕ) (u : List ℕ) (t : Bool) (n : ℕ) (X : Reply A) → m b u ≡ X → k b u ≡ left t n X → (m or k) b u ≡ no_nearer n X
unfolding ◌or◌ no_nearer
before_rest m k b u t n (ok a c r) e f = rw (e, ◌or◌)
before_rest m k b u true n (fail p) e f = let z : max p (max n p) ≡ max n p = omega arith in or_lost m k e f ∙ ap fail z
before_rest m k b u false n (fail p) e f = let z : max p n ≡ max n p = omega arith in or_lost m k e f ∙ ap fail z
before_rest m k b u t n (stop i p) e f = rw (e, ◌or◌)

left_by : {A : Type 0} {b : ℕ} {u : List ℕ} {X : Reply A} {m : Parser A} {es : List End} → Tries b u X m es → m b u ≡ left (keeps es) (furthest es) X
left_by {X = X} (last {e = kept} h) = h ∙ further_none X
left_by (last {e = lost p} h) = let z : p ≡ max p 0 = omega arith in h ∙ ap fail z
left_by {b = b} {u = u} {X = X} (more m {k = k} {e = kept} {es = es} h t) = before_rest m k b u (keeps es) (furthest es) X h (left_by t)
left_by {X = X} (more m {k = k} {e = lost p} {es = es} h t) = or_fail m k h ∙ (ap (no_nearer p) (left_by t) ∙ past_lost (keeps es) p (furthest es) X)

-- those that fail do so no further than at n, and one of them there
abbrev pub Within : ℕ → End → Type 0
Within n kept = Unit {0}
Within n (lost p) = p ≤ n

abbrev pub AllWithin : ℕ → List End → Type 0
AllWithin n [] = Unit {0}
AllWithin n (e ∷ es) = Within n e × AllWithin n es

abbrev pub Reaches : ℕ → List End → Type 0
Reaches n [] = ⊥
Reaches n (kept ∷ es) = Reaches n es
Reaches n (lost p ∷ es) = (p ≡ n) ⊎ Reaches n es

at_most : (n : ℕ) (es : List End) → AllWithin n es → furthest es ≤ n
at_most n [] w = omega arith
at_most n (kept ∷ es) w = at_most n es w.1
at_most n (lost p ∷ es) w = omega (arith, w.0, at_most n es w.1)

at_least : (n : ℕ) (es : List End) → Reaches n es → n ≤ furthest es
at_least n [] r = absurd r
at_least n (kept ∷ es) r = at_least n es r
at_least n (lost p ∷ es) (inl e) = omega (arith, e)
at_least n (lost p ∷ es) (inr r) = omega (arith, at_least n es r)

pub choice : {A : Type 0} {b : ℕ} {u : List ℕ} {X : Reply A} {m : Parser A} {es : List End} (n : ℕ) → Tries b u X m es → AllWithin n es → Reaches n es → m b u ≡ left (keeps es) n X
choice {X = X} {es = es} n t w r = let z : furthest es ≡ n = omega (arith, at_most n es w, at_least n es r) in left_by t ∙ ap (λ (q : ℕ). left (keeps es) q X) z

-- Choices of the same replies, and choices put together.
abbrev pub joined : {A : Type 0} → Reply A → Reply A → Reply A
joined (ok a c r) y = ok a c r
joined (fail p) y = no_nearer p y
joined (stop n p) y = stop n p

pub or_is : {A : Type 0} (m k : Parser A) (b : ℕ) (u : List ℕ) → (m or k) b u ≡ joined (m b u) (k b u)
unfolding ◌or◌
or_is {A} m k b u = go (m b u) refl
  where
    go : (x : Reply A) → m b u ≡ x → (m or k) b u ≡ joined (m b u) (k b u)
    go (ok a c r) e = rw (e, ◌or◌)
    go (fail p) e = rw (e, ◌or◌)
    go (stop n p) e = rw (e, ◌or◌)

pub or_same : {A : Type 0} (m k m' k' : Parser A) {b b' : ℕ} {u u' : List ℕ} → m b u ≡ m' b' u' → k b u ≡ k' b' u' → (m or k) b u ≡ (m' or k') b' u'
or_same m k m' k' {b} {b'} {u} {u'} e f = or_is m k b u ∙ (ap (λ x. joined x (k b u)) e ∙ (ap (joined (m' b' u')) f ∙ sym (or_is m' k' b' u')))

joined_assoc : {A : Type 0} (x y z : Reply A) → joined x (joined y z) ≡ joined (joined x y) z
unfolding no_nearer
joined_assoc (ok a c r) y z = refl
joined_assoc (fail p) (ok a c r) z = refl
joined_assoc (fail p) (fail q) z = further_twice p q z
joined_assoc (fail p) (stop n q) z = refl
joined_assoc (stop n p) y z = refl

pub or_assoc : {A : Type 0} (m k j : Parser A) (b : ℕ) (u : List ℕ) → (m or (k or j)) b u ≡ ((m or k) or j) b u
or_assoc m k j b u =
    or_is m (k or j) b u ∙ (ap (joined (m b u)) (or_is k j b u) ∙ (joined_assoc (m b u) (k b u) (j b u) ∙ (ap (λ x. joined x (j b u)) (sym (or_is m k b u)) ∙ sym (or_is (m or k) j b u))))

-- a last try that fails
pub or_keep : {A : Type 0} (m k : Parser A) {b n : ℕ} {u : List ℕ} → k b u ≡ fail n → (m or k) b u ≡ no_nearer n (m b u)
or_keep m k {b} {n} {u} e = before_rest m k b u false n (m b u) refl e

-- One of the tries fails no nearer than at b, and so do all.
past_further : {A : Type 0} (b p : ℕ) (X : Reply A) → b ≤ p → Past b (no_nearer p X)
unfolding no_nearer
past_further b p (ok a c r) h = tt
past_further b p (fail q) h = omega arith
past_further b p (stop n q) h = tt

further_past : {A : Type 0} (b p : ℕ) (X : Reply A) → Past b X → Past b (no_nearer p X)
unfolding no_nearer
further_past b p (ok a c r) h = tt
further_past b p (fail q) h = omega arith
further_past b p (stop n q) h = tt

module _ {A : Type 0} (m k : Parser A) (b : ℕ) (u : List ℕ) where
  pub past_first : Past b (m b u) → Past b ((m or k) b u)
  past_first h = rw (or_is m k b u) (go (m b u) h)
    where
      go : (x : Reply A) → Past b x → Past b (joined x (k b u))
      go (ok a c r) h = tt
      go (fail p) h = past_further b p (k b u) h
      go (stop n p) h = tt

  pub past_rest : Past b (k b u) → Past b ((m or k) b u)
  past_rest h = rw (or_is m k b u) (go (m b u))
    where
      go : (x : Reply A) → Past b (joined x (k b u))
      go (ok a c r) = tt
      go (fail p) = further_past b p (k b u) h
      go (stop n p) = tt

-- a parser that moves with its base fails no nearer than there
past_moved : {A : Type 0} (b : ℕ) (f : A → A) (X : Reply A) → Past b (shift_reply b f X)
unfolding shift_reply
past_moved b f (ok a c r) = tt
past_moved b f (fail p) = omega arith
past_moved b f (stop n p) = tt

pub moving_past : {A : Type 0} {f : ℕ → A → A} {m : Parser A} → ((d : ℕ) → Shifts d (f d) m m) → (b : ℕ) (u : List ℕ) → Past b (m b u)
moving_past {f = f} {m = m} w b u =
    let z : b + 0 ≡ b = omega arith in
    let h : Past b (m (b + 0) u) = rw ((w b).shifts 0 u) (past_moved b (f b) (m 0 u)) in
    rw z at h
