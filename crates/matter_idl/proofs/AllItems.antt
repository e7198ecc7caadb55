-- All items of a text are `many0 item`, after which the text has ended, or else the next item is lost.
use Rattle.lexing.specs.declared.answers.LostBy.TheVariants.{Fail}
use mathlib.Core.Path.{◌≡◌, refl, sym, ap, ◌∙◌}
use mathlib.Core.List.{List, [], ◌∷◌}
use Prim.Native.Nat.{ℕ, zero, suc, ◌-◌, ◌≤◌, ◌<◌}
use native.Mathlib.Omega.{arith}
use lib.ListN.{length, drop}
use Rattle.lexing.specs.reply.{Reply, ok, fail, stop, Parser, prepend, many0}
use Rattle.lexing.specs.blanks.{Doc, no_doc}
use Rattle.lexing.specs.answers.{lost_reply, Rest, Lost}
use Rattle.lexing.proofs.Losses.{by_lost}
use Rattle.lexing.proofs.Slicing.{ret_is}
use Rattle.lexing.proofs.TextEnd.{no_keyword, no_keywords, no_blank, no_gap}
use Rattle.lexing.proofs.Repetition.{ManyAt, prepend_ok, prepend_fail, prepend_stop, prepends, many0_more, many0_fail, many0_stop, many0_ends, many_end}
use Rattle.items.specs.entries.{parse_enum_after_doc_maturity, parse_bitmap_after_doc_maturity}
use Rattle.items.specs.inner.member_kinds.{struct_starts}
use Rattle.items.specs.inner.items.{cluster_starts}
use Rattle.items.specs.clusters.{mapped}
use Rattle.items.specs.items.{Item, item}
use Rattle.items.specs.answers.items.{after_maturity, declaration}
use Rattle.items.proofs.Choice.{or_both}
use Rattle.items.proofs.Locality.{item_consumes}
use Rattle.lexing.proofs.Sequences.{bind_ok, bind_fail, bind_stop, then_ok, then_fail}
use Rattle.items.proofs.Tries.{maturity_words, mapped_fail, maturity_elsewhere, endpoint_elsewhere, cluster_elsewhere, choice_elsewhere, struct_elsewhere}
use Rattle.items.proofs.items.Laws.{item_is}
use Rattle.matter_idl.specs.reading.{unless_ended, items_within, all_items}

-- At the end of a text there is no declaration and no item.
after_maturity_fails : {A B : Type 0} (f : ℕ → Parser A) (g : A → B) (b : ℕ) → f 0 b [] ≡ fail b → mapped (after_maturity f) g b [] ≡ fail b
unfolding after_maturity
after_maturity_fails f g b e = mapped_fail _ _ (bind_ok _ _ (maturity_elsewhere b [] (no_keywords maturity_words b)) ∙ (then_ok _ _ (no_blank b) ∙ e))

pub no_declaration : (d : Doc) (b : ℕ) → declaration d b [] ≡ fail b
unfolding declaration parse_enum_after_doc_maturity parse_bitmap_after_doc_maturity
no_declaration d b =
    or_both _ _ (after_maturity_fails _ _ b (cluster_elsewhere b [] d 0 (no_keywords cluster_starts b))) (
    or_both _ _ (mapped_fail _ _ (endpoint_elsewhere b [] (no_blank b) (no_keyword _ b))) (
    or_both _ _ (after_maturity_fails _ _ b (choice_elsewhere b [] d 0 _ (no_keyword _ b) (no_keyword _ b))) (
    or_both _ _ (after_maturity_fails _ _ b (choice_elsewhere b [] d 0 _ (no_keyword _ b) (no_keyword _ b)))
    (after_maturity_fails _ _ b (struct_elsewhere b [] d 0 (no_blank b) (no_keyword _ b) (no_keywords struct_starts b)))
    )))

no_item : (b : ℕ) → item b [] ≡ fail b
no_item b = item_is b [] (no_blank b) ∙ or_both _ _ (no_declaration no_doc b) (then_fail _ _ (no_gap b))

-- an item that is lost
unread : Reply Item → Reply (List Item)
unread (ok i c r) = fail c
unread (fail p) = fail p
unread (stop n p) = stop n p

finished : Reply (List Item) → Reply (List Item)
finished (ok l c []) = ok l c []
finished (ok l c (x ∷ v)) = unread (item c (x ∷ v))
finished (fail p) = fail p
finished (stop n p) = stop n p

prepend_unread : (i : Item) (x : Reply Item) → prepend i (unread x) ≡ unread x
unfolding unread
prepend_unread i (ok j c r) = prepend_fail i c
prepend_unread i (fail p) = prepend_fail i p
prepend_unread i (stop n p) = prepend_stop i n p

prepend_finished : (i : Item) (x : Reply (List Item)) → prepend i (finished x) ≡ finished (prepend i x)
unfolding finished
prepend_finished i (ok l c []) = prepend_ok i l c [] ∙ sym (ap finished (prepend_ok i l c []))
prepend_finished i (ok l c (x ∷ v)) = prepend_unread i (item c (x ∷ v)) ∙ sym (ap finished (prepend_ok i l c (x ∷ v)))
prepend_finished i (fail p) = prepend_fail i p ∙ sym (ap finished (prepend_fail i p))
prepend_finished i (stop n p) = prepend_stop i n p ∙ sym (ap finished (prepend_stop i n p))

ended_within : (n b : ℕ) → items_within n b [] ≡ finished (many0 item b [])
unfolding items_within unless_ended finished
ended_within zero b = ret_is [] b [] ∙ sym (ap finished (many0_fail item item_consumes b [] b (no_item b)))
ended_within (suc n) b = sym (ap finished (many0_fail item item_consumes b [] b (no_item b)))

module _ (n b x : ℕ) (v : List ℕ) where
  turn : (i : Item) (c : ℕ) (r : List ℕ) → item b (x ∷ v) ≡ ok i c r → items_within (suc n) b (x ∷ v) ≡ prepend i (items_within n c r)
  unfolding items_within unless_ended
  turn i c r e = bind_ok _ _ e ∙ prepends i (items_within n) c r

  fail_within : (p : ℕ) → item b (x ∷ v) ≡ fail p → items_within (suc n) b (x ∷ v) ≡ fail p
  unfolding items_within unless_ended
  fail_within p e = bind_fail _ _ e

  stop_within : (k p : ℕ) → item b (x ∷ v) ≡ stop k p → items_within (suc n) b (x ∷ v) ≡ stop k p
  unfolding items_within unless_ended
  stop_within k p e = bind_stop _ _ e

shorter : (b : ℕ) (u : List ℕ) (i : Item) (c : ℕ) (r : List ℕ) → item b u ≡ ok i c r → length r < length u
shorter b u i c r e = rw e at (item_consumes.consumes b u)

failed : (b x : ℕ) (v : List ℕ) (p : ℕ) → item b (x ∷ v) ≡ fail p → finished (many0 item b (x ∷ v)) ≡ fail p
unfolding finished unread
failed b x v p e = ap finished (many0_fail item item_consumes b (x ∷ v) p e) ∙ ap unread e

stopped : (b x : ℕ) (v : List ℕ) (n p : ℕ) → item b (x ∷ v) ≡ stop n p → finished (many0 item b (x ∷ v)) ≡ stop n p
unfolding finished
stopped b x v n p e = ap finished (many0_stop item item_consumes b (x ∷ v) n p e)

all_within : (n b : ℕ) (u : List ℕ) → length u ≤ n → items_within n b u ≡ finished (many0 item b u)
all_within zero b u h = empty u h
  where
    empty : (u : List ℕ) → length u ≤ 0 → items_within 0 b u ≡ finished (many0 item b u)
    empty [] h = ended_within 0 b
    empty (x ∷ v) h = absurd (omega arith)
all_within (suc n) b u h = more u h (all_within n)
  where
    more : (u : List ℕ) → length u ≤ suc n → ((b : ℕ) (u : List ℕ) → length u ≤ n → items_within n b u ≡ finished (many0 item b u)) → items_within (suc n) b u ≡ finished (many0 item b u)
    more [] h ih = ended_within (suc n) b
    more (x ∷ v) h ih = go (item b (x ∷ v)) refl
      where
        go : (y : Reply Item) → item b (x ∷ v) ≡ y → items_within (suc n) b (x ∷ v) ≡ finished (many0 item b (x ∷ v))
        go (ok i c r) e = turn n b x v i c r e ∙ (ap (prepend i) (ih c r (omega (arith, shorter b (x ∷ v) i c r e))) ∙ (prepend_finished i (many0 item c r) ∙ ap finished (sym (many0_more item item_consumes b (x ∷ v) i c r e))))
        go (fail p) e = fail_within n b x v p e ∙ sym (failed b x v p e)
        go (stop k p) e = stop_within n b x v k p e ∙ sym (stopped b x v k p e)

all_is : (b : ℕ) (u : List ℕ) → all_items b u ≡ finished (many0 item b u)
unfolding all_items
all_is b u = all_within (length u) b u (omega arith)

-- an item, and then all items after it
pub all_more : (b : ℕ) (u : List ℕ) (i : Item) (c : ℕ) (r : List ℕ) → item b u ≡ ok i c r → all_items b u ≡ prepend i (all_items c r)
all_more b u i c r e = all_is b u ∙ (ap finished (many0_more item item_consumes b u i c r e) ∙ (sym (prepend_finished i (many0 item c r)) ∙ ap (prepend i) (sym (all_is c r))))

-- what is accepted is the whole text
never_read : (x : Reply Item) {l : List Item} {c : ℕ} {r : List ℕ} → ok l c r ≡ unread x → ⊥
unfolding unread
never_read (ok i d v) e = let z : ◌≡◌ {A = ℕ} 0 1 = cc in omega arith
never_read (fail p) e = let z : ◌≡◌ {A = ℕ} 0 1 = cc in omega arith
never_read (stop n p) e = let z : ◌≡◌ {A = ℕ} 0 1 = cc in omega arith

finished_ok : (x : Reply (List Item)) {l : List Item} {c : ℕ} {r : List ℕ} → ok l c r ≡ finished x → (ok l c r ≡ x) × (r ≡ [])
unfolding finished
finished_ok (ok k d []) e = (e, cc)
finished_ok (ok k d (x ∷ v)) e = absurd (never_read (item d (x ∷ v)) e)
finished_ok (fail p) e = let z : ◌≡◌ {A = ℕ} 0 1 = cc in absurd (omega arith)
finished_ok (stop n p) e = let z : ◌≡◌ {A = ℕ} 0 1 = cc in absurd (omega arith)

pub accepted_many : (b : ℕ) (u : List ℕ) {l : List Item} {c : ℕ} {r : List ℕ} → ok l c r ≡ all_items b u → (ok l c r ≡ many0 item b u) × (r ≡ [])
accepted_many b u e = finished_ok (many0 item b u) (e ∙ all_is b u)

-- A loop of the code that is at c, where the text has ended or an item is lost.
finished_end : (l : List Item) (c : ℕ) (r : List ℕ) → r ≡ [] → ok l c r ≡ finished (ok l c r)
unfolding finished
finished_end l c r e = rw e refl

finished_lost : (l : List Item) (c : ℕ) (r : List ℕ) → 0 < length r → (x : Lost) → lost_reply x ≡ item c r → lost_reply x ≡ finished (many_end x l c r)
unfolding finished unread
finished_lost l c [] h x e = absurd (omega arith)
finished_lost l c (y ∷ v) h x e = by_lost (λ x. lost_reply x ≡ item c (y ∷ v) → lost_reply x ≡ finished (many_end x l c (y ∷ v))) (λ p e. ap unread e) (λ n p e. refl) x e

module _ {b c : ℕ} {u r : List ℕ} {l : List Item} (i : ManyAt item b u c l) (q : Rest b u c r) where
  pub all_ended : r ≡ [] → ok l c (drop (c - b) u) ≡ all_items b u
  all_ended e =
      let m = many0_ends item_consumes (Fail c) i q (sym (ap (item c) e ∙ no_item c)) in
      finished_end l c (drop (c - b) u) (sym q.same ∙ e) ∙ sym (all_is b u ∙ ap finished m)

  pub all_lost : 0 < length r → (x : Lost) → lost_reply x ≡ item c r → lost_reply x ≡ all_items b u
  all_lost h x e =
      let m = many0_ends item_consumes x i q e in
      finished_lost l c (drop (c - b) u) (rw q.same at h) x (e ∙ ap (item c) q.same) ∙ sym (all_is b u ∙ ap finished m)
