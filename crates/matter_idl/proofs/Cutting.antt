-- Cutting a text: the sections make up the text, all but the last end at a cut, and how many there can be.
use Prim.Native.Nat.{ℕ, ◌+◌, ◌*◌, ◌^◌, ◌≤◌, ◌<◌}
use mathlib.Core.Path.{◌≡◌, refl, sym, ◌∙◌, ap}
use mathlib.Core.Bool.{Bool, true, false, ◌&&◌, false≢true}
use mathlib.Core.List.{List, [], ◌∷◌, ◌++◌, append_assoc}
use native.Mathlib.Omega.{arith}
use lib.Dec.{eqb}
use lib.ListN.{length}
use Rattle.lexing.specs.word_sets.{bit}
use Rattle.lexing.proofs.Tests.{eq_of, and_left, and_right}
use Rattle.lexing.proofs.Runs.{Cut}
use Rattle.items.specs.layout.{text_limit}
use Rattle.matter_idl.specs.sections.{line_feed, closing_brace, cut_after, before_first, cut_from, sections, joined}

pub joined_append : (xs ys : List (List ℕ)) → joined (xs ++ ys) ≡ joined xs ++ joined ys
unfolding joined
joined_append [] ys = refl
joined_append (s ∷ xs) ys = rw (joined_append xs ys) (sym (append_assoc s (joined xs) (joined ys)))

-- the sections make up the text
joined_first : (x : ℕ) (ss : List (List ℕ)) → joined (before_first x ss) ≡ x ∷ joined ss
unfolding before_first joined
joined_first x [] = refl
joined_first x (s ∷ ss) = refl

joined_cut : (p : Bool) (u : List ℕ) → joined (cut_from p u) ≡ u
unfolding cut_from joined
joined_cut p [] = refl
joined_cut p (x ∷ u) = go (cut_after p x) refl (λ q. joined_cut q u)
  where
    go : (t : Bool) → cut_after p x ≡ t → ((q : Bool) → joined (cut_from q u) ≡ u) → joined (cut_from p (x ∷ u)) ≡ x ∷ u
    go true e ih = rw (e, cut_from) (ap (λ l. x ∷ l) (ih false))
    go false e ih = rw (e, cut_from) (joined_first x (cut_from (eqb x line_feed) u) ∙ ap (λ l. x ∷ l) (ih (eqb x line_feed)))

pub sections_joined : (u : List ℕ) → joined (sections u) ≡ u
unfolding sections
sections_joined u = joined_cut false u

-- bytes that end at a cut; p says of the byte before them whether it is LF
abbrev CutFrom : Bool → List ℕ → Type 0
CutFrom p [] = ⊥
CutFrom p (x ∷ []) = (p ≡ true) × (x ≡ closing_brace)
CutFrom p (x ∷ y ∷ u) = CutFrom (eqb x line_feed) (y ∷ u)

-- there is a section, and all but the last end at a cut
abbrev CutsFrom : Bool → List (List ℕ) → Type 0
CutsFrom p [] = ⊥
CutsFrom p (s ∷ []) = Unit {0}
CutsFrom p (s ∷ t ∷ ss) = CutFrom p s × CutsFrom false (t ∷ ss)

cuts_longer : (p : Bool) (x : ℕ) (ss : List (List ℕ)) → CutsFrom (eqb x line_feed) ss → CutsFrom p (before_first x ss)
unfolding before_first
cuts_longer p x [] h = absurd h
cuts_longer p x (s ∷ []) h = tt
cuts_longer p x ([] ∷ t ∷ ss) h = absurd h.0
cuts_longer p x ((y ∷ s) ∷ t ∷ ss) h = (h.0, h.1)

cuts_more : (p : Bool) (x : ℕ) (ss : List (List ℕ)) → p ≡ true → x ≡ closing_brace → CutsFrom false ss → CutsFrom p ((x ∷ []) ∷ ss)
cuts_more p x [] e d h = absurd h
cuts_more p x (s ∷ ss) e d h = ((e, d), h)

cuts_from : (p : Bool) (u : List ℕ) → CutsFrom p (cut_from p u)
unfolding cut_from
cuts_from p [] = tt
cuts_from p (x ∷ u) = go (cut_after p x) refl (λ q. cuts_from q u)
  where
    stands : cut_after p x ≡ true → (p && eqb x closing_brace) ≡ true
    stands e = unfold cut_after in e

    go : (t : Bool) → cut_after p x ≡ t → ((q : Bool) → CutsFrom q (cut_from q u)) → CutsFrom p (cut_from p (x ∷ u))
    go true e ih = rw (e, cut_from) (cuts_more p x (cut_from false u) (and_left p (eqb x closing_brace) (stands e)) (eq_of x closing_brace (and_right p (eqb x closing_brace) (stands e))) (ih false))
    go false e ih = rw (e, cut_from) (cuts_longer p x (cut_from (eqb x line_feed) u) (ih (eqb x line_feed)))

-- as the laws of locality say it
cut_later : (x : ℕ) (u : List ℕ) → CutFrom (eqb x line_feed) u → Cut (x ∷ u)
cut_later x [] c = absurd c
cut_later x (y ∷ []) c = (eq_of x line_feed c.0, c.1)
cut_later x (y ∷ z ∷ u) c = cut_later y (z ∷ u) c

cut_of : (s : List ℕ) → CutFrom false s → Cut s
cut_of [] c = absurd c
cut_of (x ∷ []) c = absurd (false≢true c.0)
cut_of (x ∷ y ∷ u) c = cut_later x (y ∷ u) c

abbrev pub Cuts : List (List ℕ) → Type 0
Cuts [] = Unit {0}
Cuts (s ∷ []) = Unit {0}
Cuts (s ∷ t ∷ ss) = Cut s × Cuts (t ∷ ss)

pub cuts_tail : (s : List ℕ) (ss : List (List ℕ)) → Cuts (s ∷ ss) → Cuts ss
cuts_tail s [] h = tt
cuts_tail s (t ∷ ss) h = h.1

cuts_of : (ss : List (List ℕ)) → CutsFrom false ss → Cuts ss
cuts_of [] h = tt
cuts_of (s ∷ []) h = tt
cuts_of (s ∷ t ∷ ss) h = (cut_of s h.0, cuts_of (t ∷ ss) h.1)

pub sections_cut : (u : List ℕ) → Cuts (sections u)
unfolding sections
sections_cut u = cuts_of (cut_from false u) (cuts_from false u)

-- A text that goes on after sections: they stay, and what follows is cut as it is alone.
abbrev Some : List (List ℕ) → Type 0
Some [] = ⊥
Some (s ∷ ss) = Unit {0}

record First (p : Bool) (x : List ℕ) (ss : List (List ℕ)) : Type 0 where
  goes_on : (t : List ℕ) → cut_from p (x ++ t) ≡ x ∷ cut_from false t
  alone : cut_from false (joined ss) ≡ ss

first_longer : (p : Bool) (c : ℕ) (x : List ℕ) (ss : List (List ℕ)) → cut_after p c ≡ false → Some ss → (l : List (List ℕ)) → before_first c l ≡ x ∷ ss → ((z : List ℕ) → l ≡ z ∷ ss → First (eqb c line_feed) z ss) → First p x ss
unfolding before_first cut_from
first_longer p c x ss d h [] e ih = let z : ss ≡ [] = cc in absurd (rw z at h)
first_longer p c x ss d h (z ∷ l) e ih =
    let k : l ≡ ss = cc in
    let f = ih z (ap (λ m. z ∷ m) k) in
    let q : x ≡ c ∷ z = cc in
    rw q (record { goes_on = λ t. rw (d, cut_from) (ap (before_first c) (f.goes_on t)); alone = f.alone })

first : (p : Bool) (u x : List ℕ) (ss : List (List ℕ)) → Some ss → cut_from p u ≡ x ∷ ss → First p x ss
unfolding cut_from
first p [] x ss h e = let z : ss ≡ [] = cc in absurd (rw z at h)
first p (c ∷ u) x ss h e = go (cut_after p c) refl (λ x. first (eqb c line_feed) u x ss h)
  where
    go : (t : Bool) → cut_after p c ≡ t → ((x : List ℕ) → cut_from (eqb c line_feed) u ≡ x ∷ ss → First (eqb c line_feed) x ss) → First p x ss
    go true d ih =
        let k : (c ∷ []) ∷ cut_from false u ≡ x ∷ ss = rw (d, cut_from) at e in
        let q : x ≡ c ∷ [] = cc in
        let z : cut_from false u ≡ ss = cc in
        rw q (record { goes_on = λ t. rw (d, cut_from) refl; alone = ap (λ l. cut_from false (joined l)) (sym z) ∙ (ap (cut_from false) (joined_cut false u) ∙ z) })
    go false d ih = first_longer p c x ss d h (cut_from (eqb c line_feed) u) (rw (d, cut_from) at e) ih

some_after : (before : List (List ℕ)) (s : List ℕ) (following : List (List ℕ)) → Some (before ++ (s ∷ following))
some_after [] s following = tt
some_after (x ∷ before) s following = tt

pub record Continues (before : List (List ℕ)) (s : List ℕ) (following : List (List ℕ)) : Type 0 where
  pub goes_on : (t : List ℕ) → sections (joined before ++ t) ≡ before ++ sections t
  pub alone : sections (joined (s ∷ following)) ≡ s ∷ following

pub continues : (u : List ℕ) (before : List (List ℕ)) (s : List ℕ) (following : List (List ℕ)) → sections u ≡ before ++ (s ∷ following) → Continues before s following
unfolding sections joined
continues u [] s following e = record { goes_on = λ t. refl; alone = ap (λ l. cut_from false (joined l)) (sym e) ∙ (ap (cut_from false) (joined_cut false u) ∙ e) }
continues u (x ∷ before) s following e =
    let f = first false u x (before ++ (s ∷ following)) (some_after before s following) e in
    let c = continues (joined (before ++ (s ∷ following))) before s following f.alone in
    record { goes_on = λ t. ap (cut_from false) (append_assoc x (joined before) t) ∙ (f.goes_on (joined before ++ t) ∙ ap (λ l. x ∷ l) (c.goes_on t)); alone = c.alone }

-- A cut takes two bytes, so a text of n bytes has at most n / 2 + 1 sections.
first_count : (x : ℕ) (ss : List (List ℕ)) {n : ℕ} → 2 ≤ n → 2 * length ss ≤ n → 2 * length (before_first x ss) ≤ n
unfolding before_first
first_count x [] h k = h
first_count x (s ∷ ss) h k = k

bit_small : (p : Bool) → bit p ≤ 1
unfolding bit
bit_small true = omega arith
bit_small false = omega arith

-- p says of the byte before the text whether it is LF
cuts_count : (p : Bool) (u : List ℕ) → 2 * length (cut_from p u) ≤ 2 + (bit p + length u)
unfolding cut_from bit
cuts_count p [] = omega arith
cuts_count p (x ∷ u) = go (cut_after p x) refl (λ q. cuts_count q u)
  where
    after_feed : cut_after p x ≡ true → bit p ≡ 1
    after_feed e = ap bit (and_left p (eqb x closing_brace) (unfold cut_after in e))

    go : (t : Bool) → cut_after p x ≡ t → ((q : Bool) → 2 * length (cut_from q u) ≤ 2 + (bit q + length u)) → 2 * length (cut_from p (x ∷ u)) ≤ 2 + (bit p + length (x ∷ u))
    go true e ih = rw (e, cut_from) (omega (arith, after_feed e, ih false))
    go false e ih = rw (e, cut_from) (first_count x (cut_from (eqb x line_feed) u) (omega arith) (omega (arith, ih (eqb x line_feed), bit_small (eqb x line_feed))))

pub sections_count : (u : List ℕ) → 2 * length (sections u) ≤ 2 + length u
unfolding sections bit
sections_count u = omega (arith, cuts_count false u)

-- so a text within the limit has at most 2^19
pub section_number : (u : List ℕ) → length u ≤ text_limit → {i : ℕ} → i < length (sections u) → i < 2 ^ 19
section_number u h l = omega (arith, sections_count u, h, l)
