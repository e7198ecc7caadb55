-- The verdict on a part: UTF-8, and then the first pass over its items; and that on a whole text, with its limit before them.
use mathlib.Core.Path.{◌≡◌, refl, sym, ap, ◌∙◌}
use mathlib.Core.Bool.{true, false}
use Rattle.std.specs.Prelude.{Option, Some, None}
use mathlib.Core.List.{List, [], ◌∷◌}
use Prim.Native.Nat.{ℕ, zero, suc, ◌+◌, ◌*◌, ◌≤◌}
use native.Mathlib.Omega.{arith}
use lib.Dec.{leb}
use lib.ListN.{length}
use Rattle.lexing.proofs.Numbers.{stop_part, part_text}
use Rattle.lexing.specs.answers.{Rest, lost_reply, Lost}
use Rattle.lexing.specs.utf8.{utf8_error}
use Rattle.lexing.proofs.Losses.{by_lost}
use Rattle.lexing.proofs.Runs.{same}
use Rattle.lexing.proofs.Onward.{Ends, Onward}
use Rattle.lexing.proofs.Slicing.{rest_self, took}
use Rattle.lexing.proofs.utf8.Laws.{utf8_inside}
use Rattle.lexing.specs.buffers.{each}
use Rattle.items.specs.layout.{text_limit}
use Rattle.items.specs.answers.{CountTo, Room}
use Rattle.items.specs.answers.items.{unhoisted_item}
use Rattle.lexing.proofs.Composed.{onward_ret, onward_bind}
use Rattle.lexing.proofs.RefusedPlaces.{RefusedIn, Placed, placed_ret, placed_bind}
use Rattle.items.proofs.RefusedPlaces.{item_in}
use Rattle.items.proofs.counts.Laws.{count_value, count_lost}
use Rattle.items.proofs.items.Laws.{item_walks}
use Rattle.matter_idl.specs.hoisting.{no_ids}
use Rattle.matter_idl.specs.reading.{unless_ended, items_within, all_items, by_reply, by_utf8, verdict_at, verdict}
use Rattle.matter_idl.specs.answers.reading.{Verdict, refused_by, AcceptedAt, RefusedAt, VerdictAtTo, RefusedTo, VerdictTo}
use Rattle.lexing.specs.answers.{number_of}
use Rattle.std.specs.Prelude.{Ok, Err}
use Rattle.matter_idl.proofs.Places.{hoisted_words}

-- the place of every refusal lies in the part, and a stop's number is one of those where the Rust panics
within_on : (n : ℕ) → Onward (items_within n)
unfolding items_within unless_ended
within_on zero = onward_ret []
within_on (suc n) = record { onward = λ b u. go (within_on n) u b }
  where
    go : Onward (items_within n) → (u : List ℕ) (b : ℕ) → Ends b u (items_within (suc n) b u)
    go w [] b = (same, refl)
    go w (x ∷ v) b = (onward_bind item_walks (λ i. onward_bind w (λ l. onward_ret (i ∷ l)))).onward b (x ∷ v)

pub all_on : Onward all_items
unfolding all_items
all_on = record { onward = λ b u. (within_on (length u)).onward b u }

module _ (b : ℕ) (t : List ℕ) where
  within_placed : (n : ℕ) → Placed b t (items_within n)
  unfolding items_within unless_ended
  within_placed zero = placed_ret []
  within_placed (suc n) = record { places = λ c u h. go (within_placed n) u c h }
    where
      go : Placed b t (items_within n) → (u : List ℕ) (c : ℕ) → Rest b t c u → RefusedIn b t (items_within (suc n) c u)
      go w [] c h = tt
      go w (x ∷ v) c h = (placed_bind item_walks (item_in b t) (λ i _. placed_bind (within_on n) w (λ l _. placed_ret (i ∷ l)))).places c (x ∷ v) h

  pub all_refused : RefusedIn b t (all_items b t)
  unfolding all_items
  all_refused = (within_placed (length t)).places b t (rest_self b t)

module _ (b : ℕ) (u : List ℕ) where
  -- a part that is not UTF-8
  pub verdict_ill : (p : ℕ) → Some p ≡ utf8_error b u → RefusedAt 2 p b u
  unfolding verdict_at by_utf8
  verdict_ill p h =
      let i = utf8_inside b u p (sym h) in
      record { is = ap (λ (o : Option ℕ). by_utf8 o (by_reply (all_items b u))) (sym h); number = refl; from = i.0; inside = omega (arith, i.1) }

  module _ (h : None ≡ utf8_error b u) where
    read_is : verdict_at b u ≡ by_reply (all_items b u)
    unfolding verdict_at by_utf8
    read_is = ap (λ (o : Option ℕ). by_utf8 o (by_reply (all_items b u))) (sym h)

    lost_fits : (l : Lost) → lost_reply l ≡ all_items b u → VerdictAtTo (Err (refused_by l)) b u
    unfolding by_reply
    lost_fits =
        by_lost
        (λ l. lost_reply l ≡ all_items b u → VerdictAtTo (Err (refused_by l)) b u)
        (λ p z.
        let k = rw (← z) at (all_refused b u) in
        record { is = read_is ∙ ap by_reply (sym z); number = refl; from = k.after; inside = k.before })
        (λ n p z.
        let k = rw (← z) at (all_refused b u) in
        record { is = read_is ∙ ap by_reply (sym z); number = stop_part (number_of n) k.1; from = k.0.after; inside = k.0.before })

    pub verdict_lost : (l : Lost) → CountTo (each unhoisted_item) all_items (Err l) b u → VerdictAtTo (Err (refused_by l)) b u
    verdict_lost l c = lost_fits l (count_lost b u c)

    pub verdict_read : (n c : ℕ) → CountTo (each unhoisted_item) all_items (Ok (n, c)) b u → AcceptedAt n b u
    unfolding by_reply
    verdict_read n c g =
        let o = count_value (each unhoisted_item) all_items b u n c g in
        let t = took all_on (rest_self b u) o.is in
        record { items = o.value; next = c; is = read_is ∙ ap by_reply (sym o.is); reads = o.is; words = λ t. hoisted_words t o.value ∙ o.words; few = omega (arith, g.few, t.inside) }

-- there is room for the second pass where the words fit
pub accepted_room : {n b : ℕ} {u : List ℕ} (h : AcceptedAt n b u) {at size : ℕ} → at + 8 * n ≤ size → Room (each unhoisted_item) all_items b u at size
accepted_room h l = record { value = h.items; next = h.next; is = h.reads; fits = omega (arith, hoisted_words no_ids h.items, h.words no_ids, l) }

-- a whole text that is too long, and one that is not
pub verdict_long : (u : List ℕ) → leb (length u) text_limit ≡ false → RefusedTo 1 text_limit u
unfolding verdict
verdict_long u e = record { is = rw (e, verdict) refl; number = refl; value = omega arith }

pub verdict_short : (u : List ℕ) → leb (length u) text_limit ≡ true → length u ≤ text_limit → (v : Verdict) → VerdictAtTo v 0 u → VerdictTo v u
unfolding verdict
verdict_short u e s (Ok n) h = record { short = s; whole = h; is = rw (e, verdict) h.is }
verdict_short u e s (Err r) h = record { is = rw (e, verdict) h.is; number = part_text (number_of r.refusal) h.number; value = omega (arith, h.inside, s) }
