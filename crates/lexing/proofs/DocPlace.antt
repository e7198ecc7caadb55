-- The doc comment of a run of blanks is in the run.
use mathlib.Core.Path.{◌≡◌, refl, sym}
use mathlib.Core.Bool.{Bool, true, false, ◌&&◌}
use mathlib.Core.List.{List, [], ◌∷◌}
use Prim.Native.Nat.{ℕ, zero, suc, ◌+◌, ◌-◌, ◌≤◌}
use native.Mathlib.Omega.{arith}
use lib.Dec.{eqb}
use lib.ListN.{length, drop}
use Rattle.lexing.specs.bytes.{slash, star, is_space, in_line}
use Rattle.lexing.specs.runs.{take_while1, tag2}
use Rattle.lexing.specs.reply.{Reply, ok, fail, stop, Parser, ret, ◌>>=◌, ◌>>◌, catch, iter_within, iter, keep}
use Rattle.lexing.specs.blanks.{Whitespace, white, plain, doc_comment, line_comment, Until, found, never, until_close, comment_kind, closed, block_comment, multispace1, whitespace_group, Doc, no_doc, doc_at, doc_after, one_blank, whitespace0}
use Rattle.lexing.specs.answers.{doc_of, BlankTo}
use Rattle.lexing.specs.declared.blanks.Blank.{Blank}
use Rattle.lexing.proofs.Onward.{group_advances}

-- between two places
abbrev GroupIn : ℕ → ℕ → Whitespace → Type 0
GroupIn b c white = Unit {0}
GroupIn b c plain = Unit {0}
GroupIn b c (doc_comment o n) = (b ≤ o) × (o + n ≤ c)

abbrev pub DocIn : ℕ → ℕ → Doc → Type 0
DocIn b c no_doc = Unit {0}
DocIn b c (doc_at o n) = (b ≤ o) × (o + n ≤ c)

abbrev GroupEnds : ℕ → Reply Whitespace → Type 0
GroupEnds b (ok g c r) = GroupIn b c g
GroupEnds b (fail p) = Unit {0}
GroupEnds b (stop n p) = Unit {0}

-- one blank
then_in : {A : Type 0} (m : Parser A) (k : Parser Whitespace) (b c : ℕ) (u : List ℕ) → ((d : ℕ) (r : List ℕ) → GroupEnds b (k d r)) → GroupEnds b ((m >> k) c u)
unfolding ◌>>◌ ◌>>=◌
then_in {A} m k b c u h = go (m c u) refl
  where
    go : (x : Reply A) → m c u ≡ x → GroupEnds b ((m >> k) c u)
    go (ok a d r) e = rw (e, ◌>>◌, ◌>>=◌) (h d r)
    go (fail p) e = rw (e, ◌>>◌, ◌>>=◌) tt
    go (stop n p) e = rw (e, ◌>>◌, ◌>>=◌) tt

line_in : (b : ℕ) (u : List ℕ) → GroupEnds b (line_comment b u)
unfolding line_comment ret
line_in b u = then_in (tag2 slash slash) (take_while1 in_line >> ret plain) b b u λ c r. then_in (take_while1 in_line) (ret plain) b c r λ d q. tt

kind_in : (b n : ℕ) (v : List ℕ) → GroupIn b (b + (4 + n)) (comment_kind b n v)
unfolding comment_kind
kind_in b zero v = tt
kind_in b (suc n) [] = tt
kind_in b (suc n) (x ∷ v) = go (eqb x star)
  where
    go : (t : Bool) → GroupIn b (b + (4 + suc n)) (elim t [ true ↦ doc_comment (b + 3) n | false ↦ plain ])
    go true = (omega arith, omega arith)
    go false = tt

closed_in : (b : ℕ) (v : List ℕ) (t : Until) → GroupEnds b (closed b v t)
unfolding closed
closed_in b v (found n r) = kind_in b n v
closed_in b v never = tt

block_in : (b : ℕ) (u : List ℕ) → GroupEnds b (block_comment b u)
unfolding block_comment
block_in b [] = tt
block_in b (x ∷ []) = tt
block_in b (x ∷ y ∷ v) = go (eqb x slash && eqb y star)
  where
    go : (t : Bool) → GroupEnds b (elim t [ true ↦ closed b v (until_close v) | false ↦ fail b ])
    go true = closed_in b v (until_close v)
    go false = tt

space_in : (b : ℕ) (u : List ℕ) → GroupEnds b (multispace1 b u)
unfolding multispace1 ret
space_in b u = then_in (take_while1 is_space) (ret white) b b u λ c r. tt

catch_in : (m : Parser Whitespace) (k : ℕ → Parser Whitespace) (b : ℕ) (u : List ℕ) → GroupEnds b (m b u) → ((p : ℕ) → GroupEnds b (k p b u)) → GroupEnds b (catch m k b u)
unfolding catch
catch_in m k b u h j = go (m b u) refl h
  where
    go : (x : Reply Whitespace) → m b u ≡ x → GroupEnds b x → GroupEnds b (catch m k b u)
    go (ok g c r) e i = rw (e, catch) i
    go (fail p) e i = rw (e, catch) (j p)
    go (stop n p) e i = rw (e, catch) tt

group_in : (b : ℕ) (u : List ℕ) → GroupEnds b (whitespace_group b u)
unfolding whitespace_group
group_in b u = catch_in line_comment (λ p. catch block_comment λ q. multispace1) b u (line_in b u) (λ p. catch_in block_comment (λ q. multispace1) b u (block_in b u) (λ q. space_in b u))

-- a run that starts at a and has come to b, with what it holds
pub record Holds (a b : ℕ) (d : Doc) : Type 0 where
  pub from : a ≤ b
  pub held : DocIn a b d

later_in : (a b c : ℕ) (d : Doc) → b ≤ c → DocIn a b d → DocIn a c d
later_in a b c no_doc h i = tt
later_in a b c (doc_at o n) h i = (i.0, omega (arith, i.1))

after_in : (a b c : ℕ) (g : Whitespace) (d : Doc) → b ≤ c → Holds a b d → GroupIn b c g → DocIn a c (doc_after g d)
unfolding doc_after
after_in a b c white d h i j = later_in a b c d h i.held
after_in a b c plain d h i j = tt
after_in a b c (doc_comment o n) d h i j = (omega (arith, i.from, j.0), j.1)

one_in : (a b : ℕ) (u : List ℕ) (d e : Doc) (c : ℕ) (r : List ℕ) → Holds a b d → one_blank d b u ≡ ok e c r → Holds a c e
unfolding one_blank ◌>>=◌ ret
one_in a b u d e c r h q = go (whitespace_group b u) refl (group_in b u)
  where
    go : (x : Reply Whitespace) → whitespace_group b u ≡ x → GroupEnds b x → Holds a c e
    go (ok g c' r') z i =
        let y : ok (doc_after g d) c' r' ≡ ok e c r = rw (z, one_blank, ◌>>=◌) at q in
        let f : doc_after g d ≡ e = cc in
        let l : c' ≡ c = cc in
        let up : b ≤ c' = omega (arith, (rw z at (group_advances.reads b u)).2) in
        record { from = omega (arith, h.from, up, l); held = rw (← l, ← f) (after_in a b c' g d up h i) }
    go (fail p) z i = let y : fail p ≡ ok e c r = rw (z, one_blank, ◌>>=◌) at q in let w : ◌≡◌ {A = ℕ} 0 1 = cc in absurd (omega arith)
    go (stop n p) z i = let y : stop n p ≡ ok e c r = rw (z, one_blank, ◌>>=◌) at q in let w : ◌≡◌ {A = ℕ} 0 1 = cc in absurd (omega arith)

run_in : (n a b : ℕ) (u : List ℕ) (d e : Doc) (c : ℕ) (r : List ℕ) → Holds a b d → iter_within n one_blank keep d b u ≡ ok e c r → Holds a c e
unfolding iter_within keep
run_in zero a b u d e c r h q = let y : d ≡ e = cc in let z : b ≡ c = cc in rw (← y, ← z) h
run_in (suc n) a b u d e c r h q = go (one_blank d b u) refl (λ b u d. run_in n a b u d e c r)
  where
    go : (x : Reply Doc) → one_blank d b u ≡ x → ((b : ℕ) (u : List ℕ) (d : Doc) → Holds a b d → iter_within n one_blank keep d b u ≡ ok e c r → Holds a c e) → Holds a c e
    go (ok f c' r') z ih = ih c' r' f (one_in a b u d f c' r' h z) (rw (z, iter_within) at q)
    go (fail p) z ih = let k : ok d b u ≡ ok e c r = rw (z, iter_within) at q in let y : d ≡ e = cc in let l : b ≡ c = cc in rw (← y, ← l) h
    go (stop i p) z ih = let k : stop i p ≡ ok e c r = rw (z, iter_within) at q in let w : ◌≡◌ {A = ℕ} 0 1 = cc in absurd (omega arith)

pub doc_in : {t : Blank} {b : ℕ} {u : List ℕ} → BlankTo t b u → DocIn b t.next (doc_of t.doc)
unfolding whitespace0 iter
doc_in {t} {b} {u} h = (run_in (suc (length u)) b b u no_doc (doc_of t.doc) t.next (drop (t.next - b) u) (record { from = omega arith; held = tt }) (sym h.reads)).held
