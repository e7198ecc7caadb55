-- Items that are read one after the other. A text that ends at a cut and is accepted is read so whatever is after it.
use Prim.Native.Nat.{ℕ, zero, suc, ◌+◌, ◌≤◌, ◌<◌}
use mathlib.Core.Path.{◌≡◌, refl, sym, ◌∙◌, ap}
use mathlib.Core.List.{List, [], ◌∷◌, ◌++◌}
use native.Mathlib.Omega.{arith}
use lib.ListN.{length}
use Rattle.lexing.specs.reply.{Reply, ok, fail, stop, prepend, many_within, many0}
use Rattle.lexing.specs.answers.{Rest}
use Rattle.lexing.proofs.Runs.{Cut, Suf, suf_cut}
use Rattle.lexing.proofs.Chain.{here, Clean, to_trans, to_suf, resume, ext}
use Rattle.lexing.proofs.Repetition.{before}
use Rattle.items.specs.items.{Item, item}
use Rattle.items.proofs.Locality.{item_local, item_consumes}
use Rattle.lexing.proofs.Composed.{rest_on}
use Rattle.lexing.proofs.Truth.{All}
use Rattle.items.proofs.Truth.{ItemTrue, item_true}
use Rattle.items.proofs.items.Laws.{item_walks}
use Rattle.matter_idl.specs.reading.{all_items}
use Rattle.matter_idl.proofs.AllItems.{all_more, accepted_many}

-- from a text at an offset to the text v at offset e
pub data Reads (e : ℕ) (v : List ℕ) : ℕ → List ℕ → List Item → Type 0 where
  none : Reads e v e v []
  more : {b c : ℕ} {u r : List ℕ} {i : Item} {l : List Item} → item b u ≡ ok i c r → Reads e v c r l → Reads e v b u (i ∷ l)

-- an accepted text is read to its end
data Split (i : Item) (l : List Item) (c : ℕ) (r : List ℕ) (x : Reply (List Item)) : Type 0 where
  split : (k : List Item) → x ≡ ok k c r → l ≡ i ∷ k → Split i l c r x

prepended : (i : Item) (l : List Item) (c : ℕ) (r : List ℕ) (x : Reply (List Item)) → prepend i x ≡ ok l c r → Split i l c r x
unfolding prepend
prepended i l c r (ok k d q) e = split k (cc) (cc)
prepended i l c r (fail p) e = let z : ◌≡◌ {A = ℕ} 0 1 = cc in absurd (omega arith)
prepended i l c r (stop n p) e = let z : ◌≡◌ {A = ℕ} 0 1 = cc in absurd (omega arith)

ended : (b c : ℕ) (u r : List ℕ) (l : List Item) → ok [] b u ≡ ok l c r → Reads c r b u l
ended b c u r l e =
    let x : b ≡ c = cc in let y : u ≡ r = cc in let z : l ≡ [] = cc in
    rw (x, y, z) none

many_reads : (n b : ℕ) (u : List ℕ) (l : List Item) (c : ℕ) (r : List ℕ) → many_within n item b u ≡ ok l c r → Reads c r b u l
unfolding many_within
many_reads zero b u l c r e = ended b c u r l e
many_reads (suc n) b u l c r e = go (item b u) refl (many_reads n)
  where
    last : (i : Item) (d : ℕ) (q : List ℕ) → item b u ≡ ok i d q → ((b : ℕ) (u : List ℕ) (l : List Item) (c : ℕ) (r : List ℕ) → many_within n item b u ≡ ok l c r → Reads c r b u l) → Split i l c r (many_within n item d q) → Reads c r b u l
    last i d q z ih (split k x y) = rw y (more z (ih d q k c r x))

    go : (y : Reply Item) → item b u ≡ y → ((b : ℕ) (u : List ℕ) (l : List Item) (c : ℕ) (r : List ℕ) → many_within n item b u ≡ ok l c r → Reads c r b u l) → Reads c r b u l
    go (ok i d q) z ih = last i d q z ih (prepended i l c r (many_within n item d q) (rw (z, many_within) at e))
    go (fail p) z ih = ended b c u r l (rw (z, many_within) at e)
    go (stop k p) z ih = let y : ◌≡◌ {A = ℕ} 0 1 = cc (rw (z, many_within) at e) in absurd (omega arith)

pub accepted_reads : (b : ℕ) (u : List ℕ) (l : List Item) (c : ℕ) (r : List ℕ) → all_items b u ≡ ok l c r → Reads c [] b u l
unfolding many0
accepted_reads b u l c r e =
    let m = accepted_many b u (sym e) in
    let z : r ≡ [] = m.1 in
    rw z at (many_reads (suc (length u)) b u l c r (sym m.0))

-- the offset is counted on
pub reads_ends : {e : ℕ} {v : List ℕ} {b : ℕ} {u : List ℕ} {l : List Item} → Reads e v b u l → e + length v ≡ b + length u
reads_ends none = refl
reads_ends (more {b = b} {u = u} q k) = let p = rw q at (item_local.on_chain.chain 0 b u) in reads_ends k ∙ p.1

-- items and then those after them
before_prepend : (i : Item) (l : List Item) (x : Reply (List Item)) → prepend i (before l x) ≡ before (i ∷ l) x
unfolding prepend
before_prepend i l (ok k c r) = refl
before_prepend i l (fail p) = refl
before_prepend i l (stop n p) = refl

before_none : (x : Reply (List Item)) → x ≡ before [] x
before_none (ok k c r) = refl
before_none (fail p) = refl
before_none (stop n p) = refl

pub reads_all : {e : ℕ} {v : List ℕ} {b : ℕ} {u : List ℕ} {l : List Item} → Reads e v b u l → all_items b u ≡ before l (all_items e v)
reads_all {e = e} {v = v} none = before_none (all_items e v)
reads_all {e = e} {v = v} (more {b = b} {c = c} {u = u} {r = r} {i = i} {l = l} q k) = all_more b u i c r q ∙ (ap (prepend i) (reads_all k) ∙ before_prepend i l (all_items e v))

pub reads_on : {c e : ℕ} {r v : List ℕ} {b : ℕ} {u : List ℕ} {l k : List Item} → Reads c r b u l → Reads e v c r k → Reads e v b u (l ++ k)
reads_on none y = y
reads_on (more q x) y = more q (reads_on x y)

-- what is read to its end is clean
reads_clean : {e b : ℕ} {u : List ℕ} {l : List Item} → Reads e [] b u l → Clean 0 u
reads_clean none = here
reads_clean (more {b = b} {u = u} q k) = let p = rw q at (item_local.on_chain.chain 0 b u) in to_trans p.0 (reads_clean k)

-- empty, or ended by a cut
abbrev CutOrEmpty : List ℕ → Type 0
CutOrEmpty [] = Unit {0}
CutOrEmpty (x ∷ u) = Cut (x ∷ u)

cut_rest : (r : List ℕ) {u : List ℕ} → Suf r u → Cut u → CutOrEmpty r
cut_rest [] f c = tt
cut_rest (y ∷ r) f c = suf_cut y r f c

-- so it is read whatever is after it
continued : {e b : ℕ} {u : List ℕ} {l : List Item} (s : List ℕ) → Reads e [] b u l → Clean 0 u → CutOrEmpty u → Reads e s b (u ++ s) l
unfolding ext
continued s none c d = none
continued s (more {b = b} {u = []} q k) c d = absurd (short (rw q at (item_consumes.consumes b [])))
  where
    short : {n : ℕ} → n < 0 → ⊥
    short h = omega arith
continued s (more {b = b} {u = x ∷ u} {r = r} q k) c d =
    let p = rw q at (item_local.on_chain.chain 0 b (x ∷ u)) in
    more (item_local.local 0 b (x ∷ u) s c d ∙ ap (ext s) q) (continued s k (resume p.0 c) (cut_rest r (to_suf p.0) d))

pub reads_continued : {e b : ℕ} {u : List ℕ} {l : List Item} (s : List ℕ) → Cut u → Reads e [] b u l → Reads e s b (u ++ s) l
reads_continued {u = []} s d k = absurd d
reads_continued {u = x ∷ u} s d k = continued s k (reads_clean k) d

-- Two texts, the first ended by a cut and accepted: reading them together is reading them one after the other.
pub joined_reading : (b : ℕ) (u s : List ℕ) (l : List Item) (c : ℕ) (r : List ℕ) → Cut u → all_items b u ≡ ok l c r → all_items b (u ++ s) ≡ before l (all_items (b + length u) s)
joined_reading b u s l c r d e =
    let k = accepted_reads b u l c r e in
    let z : c ≡ b + length u = omega (arith, reads_ends k) in
    rw z at (reads_all (reads_continued s d k))

-- what is read in a part that ends at `end` or before is true of the part
pub reads_true : (s : ℕ) (t : List ℕ) (end : ℕ) → s + length t ≤ end → {e : ℕ} {v : List ℕ} {b : ℕ} {u : List ℕ} {l : List Item} → Rest s t b u → Reads e v b u l → All (ItemTrue s t end) l
reads_true s t end f h none = tt
reads_true s t end f h (more {b = b} {u = u} {i = i} q k) =
    let p = rw q at (item_walks.onward b u) in
    let g = rest_on i h p in
    (item_true s t end h q (omega (arith, g.size, f)), reads_true s t end f g k)
