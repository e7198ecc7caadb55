-- A text is read as its sections are: if each is accepted, so is the text, with their items. What the accepted ones hold is true of the text.
use Prim.Native.Nat.{ℕ, ◌+◌, ◌≤◌}
use mathlib.Core.Path.{◌≡◌, refl, ◌∙◌}
use mathlib.Core.Bool.{Bool, true, false}
use Rattle.std.specs.Prelude.{Option, None, Some}
use mathlib.Core.List.{List, [], ◌∷◌, ◌++◌, append-nil, append_assoc}
use native.Mathlib.Omega.{arith}
use lib.Dec.{leb}
use lib.ListN.{length, length-append}
use lib.Seq.{drop_at}
use borrow.Author.Tests.{leb-true}
use Rattle.lexing.specs.reply.{Reply, ok, fail, stop, ret}
use Rattle.lexing.specs.answers.{Rest}
use Rattle.lexing.specs.utf8.{run, fault, utf8_error}
use Rattle.lexing.proofs.utf8.Laws.{utf8_append}
use Rattle.items.specs.items.{Item}
use Rattle.items.specs.layout.{text_limit}
use Rattle.lexing.proofs.Composed.{rest_whole}
use Rattle.items.proofs.RecordsFit.{all_append}
use Rattle.lexing.proofs.Truth.{All}
use Rattle.items.proofs.Truth.{ItemTrue}
use Rattle.matter_idl.specs.reading.{items_within, all_items, Verdict, accepted, turned_down, by_reply, by_utf8, verdict_at, verdict}
use Rattle.matter_idl.specs.sections.{sections, joined}
use Rattle.matter_idl.specs.survey.{items_of, accepted_items}
use Rattle.matter_idl.specs.demand_3.{Accepted, EachAccepted}
use Rattle.matter_idl.proofs.Join.{Reads, none as no_more, accepted_reads, reads_ends, reads_all, reads_on, reads_continued, reads_true}
use Rattle.matter_idl.proofs.Cutting.{sections_joined, Cuts, cuts_tail, sections_cut}
use Rattle.matter_idl.proofs.SectionsAlone.{shift_verdict, verdict_short, verdict_alone, EachShort, each_short}

-- an accepted section is UTF-8 and is read to its end
record AcceptedAt (b : ℕ) (s : List ℕ) (l : List Item) : Type 0 where
  well_formed : utf8_error b s ≡ None
  reads : Reads (b + length s) [] b s l

read_at : (b : ℕ) (s : List ℕ) (l : List Item) (x : Reply (List Item)) → all_items b s ≡ x → by_reply x ≡ accepted l → Reads (b + length s) [] b s l
unfolding by_reply
read_at b s l (ok k c r) e h =
    let y : k ≡ l = cc in
    let q = accepted_reads b s k c r e in
    let z : c ≡ b + length s = omega (arith, reads_ends q) in
    rw (z, y) at q
read_at b s l (fail p) e h = let z : ◌≡◌ {A = ℕ} 0 1 = cc in absurd (omega arith)
read_at b s l (stop n p) e h = let z : ◌≡◌ {A = ℕ} 0 1 = cc in absurd (omega arith)

accepted_at : (b : ℕ) (s : List ℕ) (l : List Item) → verdict_at b s ≡ accepted l → AcceptedAt b s l
unfolding verdict_at by_utf8
accepted_at b s l h = go (utf8_error b s) refl h
  where
    go : (o : Option ℕ) → utf8_error b s ≡ o → by_utf8 o (by_reply (all_items b s)) ≡ accepted l → AcceptedAt b s l
    go None e k = record { well_formed = e; reads = read_at b s l (all_items b s) refl k }
    go (Some p) e k = let z : ◌≡◌ {A = ℕ} 0 1 = cc in absurd (omega arith)

-- it is read so with the sections after it
section_reads : (b : ℕ) (s : List ℕ) (ss : List (List ℕ)) (l : List Item) → Cuts (s ∷ ss) → verdict_at b s ≡ accepted l → Reads (b + length s) (joined ss) b (s ++ joined ss) l
unfolding joined
section_reads b s [] l c h = rw (append-nil s) (accepted_at b s l h).reads
section_reads b s (t ∷ ss) l c h = reads_continued (t ++ joined ss) c.0 (accepted_at b s l h).reads

-- What accepted sections hold is true of the text.
rest_after : (p z : List ℕ) → Rest 0 (p ++ z) (length p) z
rest_after p z = rw (drop_at p z (length p) refl) at (rest_whole (p ++ z) (length p) (omega (arith, length-append p z)))

items_true : (p s : List ℕ) (ss : List (List ℕ)) → Cuts (s ∷ ss) → (v : Verdict) → verdict_at (length p) s ≡ v → All (ItemTrue 0 (p ++ (s ++ joined ss)) (length (p ++ (s ++ joined ss)))) (items_of v)
unfolding items_of
items_true p s ss c (accepted l) e = reads_true 0 (p ++ (s ++ joined ss)) _ (omega arith) (rest_after p (s ++ joined ss)) (section_reads (length p) s ss l c e)
items_true p s ss c (turned_down k q) e = tt

after_true : (p : List ℕ) (ss : List (List ℕ)) → Cuts ss → All (ItemTrue 0 (p ++ joined ss) (length (p ++ joined ss))) (accepted_items (length p) ss)
unfolding accepted_items joined
after_true p [] c = tt
after_true p (s ∷ ss) c =
    let e : (p ++ s) ++ joined ss ≡ p ++ (s ++ joined ss) = append_assoc p s (joined ss) in
    let n : length (p ++ s) ≡ length p + length s = length-append p s in
    all_append (ItemTrue 0 (p ++ (s ++ joined ss)) (length (p ++ (s ++ joined ss)))) (items_of (verdict_at (length p) s)) (accepted_items (length p + length s) ss) (items_true p s ss c (verdict_at (length p) s) refl) (rw (e, n) at (after_true (p ++ s) ss (cuts_tail s ss c)))

pub survey_true : (u : List ℕ) → All (ItemTrue 0 u (length u)) (accepted_items 0 (sections u))
survey_true u = rw (sections_joined u) at (after_true [] (sections u) (sections_cut u))

-- what an accepted text holds is true of it
pub accepted_true : (u : List ℕ) (l : List Item) → verdict u ≡ accepted l → (length u ≤ text_limit) × All (ItemTrue 0 u (length u)) l
unfolding verdict
accepted_true u l h = go (leb (length u) text_limit) refl h
  where
    go : (b : Bool) → leb (length u) text_limit ≡ b → elim b [ true ↦ verdict_at 0 u | false ↦ turned_down 1 text_limit ] ≡ accepted l → (length u ≤ text_limit) × All (ItemTrue 0 u (length u)) l
    go true e k = (leb-true (length u) text_limit e, reads_true 0 u (length u) (omega arith) (rest_after [] u) (accepted_at 0 u l k).reads)
    go false e k = let z : ◌≡◌ {A = ℕ} 0 1 = cc in absurd (omega arith)

-- If each section is accepted, the text is read to its end.
abbrev EachAt : ℕ → List (List ℕ) → Type 0
EachAt b [] = Unit {0}
EachAt b (s ∷ ss) = Accepted (verdict_at b s) × EachAt (b + length s) ss

accepted_shift : (d : ℕ) (v : Verdict) → Accepted v → Accepted (shift_verdict d v)
unfolding shift_verdict
accepted_shift d (accepted l) h = tt
accepted_shift d (turned_down k p) h = absurd h

each_at : (b : ℕ) (ss : List (List ℕ)) → EachShort ss → EachAccepted ss → EachAt b ss
each_at b [] k h = tt
each_at b (s ∷ ss) k h = (rw (verdict_alone b s k.0) (accepted_shift b (verdict s) h.0), each_at (b + length s) ss k.1 h.1)

accepted_is : (v : Verdict) → Accepted v → v ≡ accepted (items_of v)
unfolding items_of
accepted_is (accepted l) h = refl
accepted_is (turned_down k p) h = absurd h

sections_read : (b : ℕ) (ss : List (List ℕ)) → Cuts ss → EachAt b ss → Reads (b + length (joined ss)) [] b (joined ss) (accepted_items b ss)
unfolding joined accepted_items
sections_read b [] c h = let z : b + 0 ≡ b = omega arith in rw z no_more
sections_read b (s ∷ ss) c h =
    let z : b + length s + length (joined ss) ≡ b + length (s ++ joined ss) = omega (arith, length-append s (joined ss)) in
    reads_on (section_reads b s ss (items_of (verdict_at b s)) c (accepted_is (verdict_at b s) h.0)) (rw z at (sections_read (b + length s) ss (cuts_tail s ss c) h.1))

nothing_ill : (b : ℕ) → utf8_error b [] ≡ None
unfolding utf8_error run fault
nothing_ill b = refl

sections_well_formed : (b : ℕ) (ss : List (List ℕ)) → EachAt b ss → utf8_error b (joined ss) ≡ None
unfolding joined
sections_well_formed b [] h = nothing_ill b
sections_well_formed b (s ∷ ss) h = utf8_append b s (joined ss) (accepted_at b s _ (accepted_is (verdict_at b s) h.0)).well_formed ∙ sections_well_formed (b + length s) ss h.1

no_items : (e : ℕ) → all_items e [] ≡ ok [] e []
unfolding all_items items_within ret
no_items e = refl

read_whole : (b : ℕ) (u : List ℕ) (l : List Item) → utf8_error b u ≡ None → Reads (b + length u) [] b u l → verdict_at b u ≡ accepted l
unfolding verdict_at by_utf8 by_reply
read_whole b u l e k = rw (e, reads_all k, no_items (b + length u), append-nil l) refl

pub whole_verdict : (u : List ℕ) → length u ≤ text_limit → EachAccepted (sections u) → verdict u ≡ accepted (accepted_items 0 (sections u))
whole_verdict u h k =
    let a = each_at 0 (sections u) (each_short (sections u) (rw (sections_joined u) h)) k in
    verdict_short u h ∙ read_whole 0 u _ (rw (sections_joined u) at (sections_well_formed 0 (sections u) a)) (rw (sections_joined u) at (sections_read 0 (sections u) (sections_cut u) a))
