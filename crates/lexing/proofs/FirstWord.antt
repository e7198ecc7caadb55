-- A text whose first word is a keyword: no other keyword is there, and no word of a set that lacks it. A keyword that begins with another byte is not there.
use mathlib.Core.Path.{◌≡◌, refl, sym, ap, ◌∙◌}
use mathlib.Core.Bool.{Bool, true, false, not, ◌&&◌, true≢false, false≢true}
use mathlib.Core.Logic.{◌⊎◌, inl, inr}
use mathlib.Core.List.{List, [], ◌∷◌}
use Prim.Native.Nat.{ℕ, zero, suc, ◌+◌, ◌*◌, ◌^◌, ◌<◌, max}
use native.Mathlib.Omega.{arith}
use lib.Dec.{eqb}
use lib.ListN.{length, get_or}
use borrow.Author.Tests.{eq-eqb, eqb-true, eqb-false, not-true}
use Rattle.lexing.specs.bytes.{is_letter, is_word, lower, list_take_while}
use Rattle.lexing.specs.reply.{Reply, ok, fail, stop, ret, ◌>>=◌, ◌or◌, no_nearer, iter_within, iter, keep, position, pick, fail_at}
use Rattle.lexing.specs.words.{Word, is_keyword, keyword, any_keyword}
use Rattle.lexing.specs.blanks.{Whitespace, whitespace_group, Doc, no_doc, doc_after, one_blank, whitespace0, whitespace1}
use Rattle.lexing.specs.word_sets.{next_word, set_step, keywords_set, same_bytes, contains, bit, flags, set_flags}
use Rattle.lexing.specs.inner.word_sets.{initial}
use Rattle.lexing.proofs.Tests.{and_left, and_right, or_false, false_if}
use Rattle.lexing.proofs.TokenLocality.{one_blank_consumes, set_step_consumes}
use Rattle.lexing.proofs.Repetition.{iter_fail}
use Rattle.lexing.proofs.words.Laws.{keyword_no_word, keyword_other, key_differs}

-- the first word of u is the keyword k
pub record Starts (k u : List ℕ) : Type 0 where
  pub letter : is_letter (get_or u 0 0) ≡ true
  pub is : is_keyword (list_take_while is_word u) k ≡ true

pub starts_of : (k : List ℕ) (b : ℕ) (u : List ℕ) (w : Word) (c : ℕ) (r : List ℕ) → keyword k b u ≡ ok w c r → Starts k u
starts_of k b u w c r e = go (is_letter (get_or u 0 0)) refl (is_keyword (list_take_while is_word u) k) refl
  where
    go : (t : Bool) → is_letter (get_or u 0 0) ≡ t → (t' : Bool) → is_keyword (list_take_while is_word u) k ≡ t' → Starts k u
    go true l true i = record { letter = l; is = i }
    go true l false i = absurd (let z : ◌≡◌ {A = ℕ} 0 1 = cc (keyword_other k b u l i) in omega arith)
    go false l t' i = absurd (let z : ◌≡◌ {A = ℕ} 0 1 = cc (keyword_no_word k b u l) in omega arith)

-- a word is one keyword at the most
one_keyword : (w k j : List ℕ) → is_keyword w k ≡ true → is_keyword w j ≡ true → same_bytes k j ≡ true
unfolding is_keyword same_bytes
one_keyword [] [] [] e f = refl
one_keyword [] [] (y ∷ j) e f = absurd (false≢true f)
one_keyword [] (x ∷ k) j e f = absurd (false≢true e)
one_keyword (a ∷ w) [] j e f = absurd (false≢true e)
one_keyword (a ∷ w) (x ∷ k) [] e f = absurd (false≢true f)
one_keyword (a ∷ w) (x ∷ k) (y ∷ j) e f =
    let p = eqb-true (lower a) x (and_left (eqb (lower a) x) (is_keyword w k) e) in
    let q = eqb-true (lower a) y (and_left (eqb (lower a) y) (is_keyword w j) f) in
    rw (eq-eqb x y (sym p ∙ q)) (one_keyword w k j (and_right (eqb (lower a) x) (is_keyword w k) e) (and_right (eqb (lower a) y) (is_keyword w j) f))

-- no words, no flags
no_flags : (ks : List (List ℕ)) → flags ks [] ≡ 0
unfolding flags contains bit
no_flags [] = refl
no_flags (k ∷ ks) = let z : 0 * 2 ^ length ks + flags ks [] ≡ flags ks [] = omega arith in z ∙ no_flags ks

-- none of several keywords is at b
abbrev pub Frees : ℕ → List ℕ → List (List ℕ) → Type 0
Frees b u [] = Unit {0}
Frees b u (j ∷ js) = (keyword j b u ≡ fail b) × Frees b u js

pub free_keywords : (b : ℕ) (u : List ℕ) (js : List (List ℕ)) → Frees b u js → any_keyword js b u ≡ fail b
unfolding any_keyword ◌or◌ no_nearer
free_keywords b u [] l = refl
free_keywords b u (j ∷ js) l = let z : max b b ≡ b = omega arith in rw (l.0, ◌or◌) (rw (free_keywords b u js l.1) (rw z))

pub free_set : (b : ℕ) (u : List ℕ) (ks : List (List ℕ)) → Frees b u ks → set_flags ks b u ≡ ok 0 b u
unfolding set_flags keywords_set set_step next_word keep ◌>>=◌ ret
free_set b u ks l = rw (iter_fail (set_step ks) keep (set_step_consumes ks) [] b u b none, ◌>>=◌) (ap (λ v. ok v b u) (no_flags ks))
  where
    none : set_step ks [] b u ≡ fail b
    none = rw (free_keywords b u ks l, set_step, next_word, ◌>>=◌)

-- a keyword that begins with another byte than the text, in lower case, is not there
pub other_first : (x : ℕ) (k : List ℕ) (b : ℕ) (u : List ℕ) → (lower (get_or u 0 0) ≡ x → ⊥) → keyword (x ∷ k) b u ≡ fail b
other_first x k b u h = sym (key_differs (x ∷ k) b u 0 (omega arith) (λ e w. h e))

-- nor is one of several where none of them begins so
pub no_initial : (b : ℕ) (u : List ℕ) (ks : List (List ℕ)) → initial (lower (get_or u 0 0)) ks ≡ false → Frees b u ks
unfolding initial
no_initial b u [] e = tt
no_initial b u ([] ∷ ks) e = absurd (true≢false e)
no_initial b u ((x ∷ k) ∷ ks) e =
    let o = or_false (eqb (lower (get_or u 0 0)) x) (initial (lower (get_or u 0 0)) ks) e in
    (other_first x k b u (eqb-false (lower (get_or u 0 0)) x o.0), no_initial b u ks o.1)

-- a first word out of some, and so none of others
abbrev lacks : List ℕ → List (List ℕ) → Bool
lacks k [] = true
lacks k (j ∷ js) = not (same_bytes k j) && lacks k js

abbrev pub disjoint : List (List ℕ) → List (List ℕ) → Bool
disjoint [] js = true
disjoint (k ∷ ks) js = lacks k js && disjoint ks js

abbrev pub OneOf : List ℕ → List (List ℕ) → Type 0
OneOf k [] = ⊥
OneOf k (j ∷ js) = (k ≡ j) ⊎ OneOf k js

pub record StartsAny (ks : List (List ℕ)) (u : List ℕ) : Type 0 where
  pub first : List ℕ
  pub among : OneOf first ks
  pub starts : Starts first u

module _ {k u : List ℕ} (s : Starts k u) (b : ℕ) where
  pub other_keyword : (j : List ℕ) → same_bytes k j ≡ false → keyword j b u ≡ fail b
  other_keyword j d = sym (keyword_other j b u s.letter (false_if (is_keyword (list_take_while is_word u) j) (λ e. true≢false (sym (one_keyword (list_take_while is_word u) k j s.is e) ∙ d))))

  lacks_free : (js : List (List ℕ)) → lacks k js ≡ true → Frees b u js
  lacks_free [] e = tt
  lacks_free (j ∷ js) e = (other_keyword j (not-true (same_bytes k j) (and_left (not (same_bytes k j)) (lacks k js) e)), lacks_free js (and_right (not (same_bytes k j)) (lacks k js) e))

one_lacks : (k : List ℕ) (ks js : List (List ℕ)) → OneOf k ks → disjoint ks js ≡ true → lacks k js ≡ true
one_lacks k [] js o e = absurd o
one_lacks k (j ∷ ks) js (inl q) e = rw q (and_left (lacks j js) (disjoint ks js) e)
one_lacks k (j ∷ ks) js (inr o) e = one_lacks k ks js o (and_right (lacks j js) (disjoint ks js) e)

pub starts_free : {ks : List (List ℕ)} {u : List ℕ} → StartsAny ks u → (b : ℕ) (js : List (List ℕ)) → disjoint ks js ≡ true → Frees b u js
starts_free {ks} s b js e = lacks_free s.starts b js (one_lacks s.first ks js s.among e)

-- no blank is after a run of blanks
one_blank_fails : (d : Doc) (b : ℕ) (u : List ℕ) (p : ℕ) → one_blank d b u ≡ fail p → whitespace_group b u ≡ fail p
unfolding one_blank ◌>>=◌ ret
one_blank_fails d b u p e = go (whitespace_group b u) refl
  where
    go : (x : Reply Whitespace) → whitespace_group b u ≡ x → whitespace_group b u ≡ fail p
    go (ok g c r) z = let y : ok (doc_after g d) c r ≡ fail p = rw (z, one_blank, ◌>>=◌) at e in let w : ◌≡◌ {A = ℕ} 0 1 = cc in absurd (omega arith)
    go (fail q) z = let y : ◌≡◌ {A = Reply Doc} (fail q) (fail p) = rw (z, one_blank, ◌>>=◌) at e in let v : q ≡ p = cc in z ∙ ap fail v
    go (stop n q) z = let y : stop n q ≡ fail p = rw (z, one_blank, ◌>>=◌) at e in let w : ◌≡◌ {A = ℕ} 0 1 = cc in absurd (omega arith)

run_ends : (n b : ℕ) (u : List ℕ) (d e : Doc) (c : ℕ) (r : List ℕ) → length u < n → iter_within n one_blank keep d b u ≡ ok e c r → (p : ℕ) × (whitespace_group c r ≡ fail p)
unfolding iter_within keep
run_ends zero b u d e c r l q = absurd (omega arith)
run_ends (suc n) b u d e c r l q = go (one_blank d b u) refl (λ b u d. run_ends n b u d e c r)
  where
    go : (x : Reply Doc) → one_blank d b u ≡ x → ((b : ℕ) (u : List ℕ) (d : Doc) → length u < n → iter_within n one_blank keep d b u ≡ ok e c r → (p : ℕ) × (whitespace_group c r ≡ fail p)) → (p : ℕ) × (whitespace_group c r ≡ fail p)
    go (ok f c' r') z ih = let k = rw z at ((one_blank_consumes d).consumes b u) in ih c' r' f (omega (arith, k, l)) (rw (z, iter_within) at q)
    go (fail p) z ih =
        let k : ok d b u ≡ ok e c r = rw (z, iter_within) at q in
        let y : b ≡ c = cc in
        let v : u ≡ r = cc in
        (p, rw (← y, ← v) (one_blank_fails d b u p z))
    go (stop i p) z ih = let k : stop i p ≡ ok e c r = rw (z, iter_within) at q in let w : ◌≡◌ {A = ℕ} 0 1 = cc in absurd (omega arith)

pub blank_clear : (b : ℕ) (u : List ℕ) (d : Doc) (c : ℕ) (r : List ℕ) → whitespace0 b u ≡ ok d c r → whitespace0 c r ≡ ok no_doc c r
unfolding whitespace0 iter one_blank ◌>>=◌ keep
blank_clear b u d c r e =
    let x = run_ends (suc (length u)) b u no_doc d c r (omega arith) e in
    iter_fail one_blank keep one_blank_consumes no_doc c r x.0 (rw (x.1, one_blank, ◌>>=◌) refl)

-- nor after a gap
pub gap_clear : (b : ℕ) (u : List ℕ) (d : Doc) (c : ℕ) (r : List ℕ) → whitespace1 b u ≡ ok d c r → whitespace0 c r ≡ ok no_doc c r
unfolding whitespace1 ◌>>=◌ position pick fail_at ret
gap_clear b u d c r h = go (whitespace0 b u) refl
  where
    by : (e : Doc) (c' : ℕ) (r' : List ℕ) → whitespace0 b u ≡ ok e c' r' → (t : Bool) → eqb b c' ≡ t → whitespace0 c r ≡ ok no_doc c r
    by e c' r' z true q = let i : fail b ≡ ok d c r = rw (q, pick) at (rw (z, whitespace1, ◌>>=◌) at h) in let t : ◌≡◌ {A = ℕ} 0 1 = cc in absurd (omega arith)
    by e c' r' z false q =
        let i : ok e c' r' ≡ ok d c r = rw (q, pick) at (rw (z, whitespace1, ◌>>=◌) at h) in
        let x : c' ≡ c = cc in
        let y : r' ≡ r = cc in
        rw (← x, ← y) (blank_clear b u e c' r' z)

    go : (x : Reply Doc) → whitespace0 b u ≡ x → whitespace0 c r ≡ ok no_doc c r
    go (ok e c' r') z = by e c' r' z (eqb b c') refl
    go (fail p) z = let i : fail p ≡ ok d c r = rw (z, whitespace1, ◌>>=◌) at h in let t : ◌≡◌ {A = ℕ} 0 1 = cc in absurd (omega arith)
    go (stop n p) z = let i : stop n p ≡ ok d c r = rw (z, whitespace1, ◌>>=◌) at h in let t : ◌≡◌ {A = ℕ} 0 1 = cc in absurd (omega arith)
