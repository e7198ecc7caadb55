-- A section read in its place is the section read alone, moved by its start.
use Prim.Native.Nat.{ℕ, zero, suc, ◌+◌, ◌≤◌}
use mathlib.Core.Path.{◌≡◌, refl, sym, ◌∙◌, ap}
use Rattle.std.specs.Prelude.{Option, None, Some}
use mathlib.Core.List.{List, [], ◌∷◌, ◌++◌, map}
use native.Mathlib.Omega.{arith}
use lib.ListN.{length, length-append}
use borrow.Author.Tests.{le-leb}
use Rattle.lexing.specs.reply.{Reply, ok, fail, stop, Parser, ret, ◌>>=◌}
use Rattle.lexing.specs.utf8.{utf8_error}
use Rattle.lexing.proofs.Shift.{shift_reply, Shifts, shift_ret, shift_bind}
use Rattle.lexing.proofs.utf8.Laws.{shift_place, utf8_shift}
use Rattle.items.specs.items.{Item, item}
use Rattle.items.specs.layout.{text_limit}
use Rattle.items.proofs.Shift.{shift_item, shift_item_lem}
use Rattle.matter_idl.specs.reading.{unless_ended, items_within, all_items, Verdict, accepted, turned_down, by_reply, by_utf8, verdict_at, verdict}
use Rattle.matter_idl.specs.sections.{joined}
use Rattle.matter_idl.specs.survey.{items_of, accepted_items, report_entry, report_entries}
use Rattle.matter_idl.specs.demand_3.{entry_alone, entries_alone}

unfoldable pub shift_verdict : ℕ → Verdict → Verdict
shift_verdict d (accepted l) = accepted (map (shift_item d) l)
shift_verdict d (turned_down k p) = turned_down k (d + p)

module _ (d : ℕ) where
  turn_shift : (m : Parser (List Item)) → Shifts d (map (shift_item d)) m m → Shifts d (map (shift_item d)) (item >>= λ i. m >>= λ l. ret (i ∷ l)) (item >>= λ i. m >>= λ l. ret (i ∷ l))
  turn_shift m w = shift_bind d (shift_item_lem d) λ i' i ei. shift_bind d w λ l' l el. shift_ret d (i' ∷ l') (i ∷ l) (cc)

  within_shift : (n : ℕ) → Shifts d (map (shift_item d)) (items_within n) (items_within n)
  unfolding items_within unless_ended shift_reply
  within_shift zero = shift_ret d [] [] refl
  within_shift (suc n) = record { shifts = λ b u. go b u (within_shift n) }
    where
      go : (b : ℕ) (u : List ℕ) → Shifts d (map (shift_item d)) (items_within n) (items_within n) → items_within (suc n) (d + b) u ≡ shift_reply d (map (shift_item d)) (items_within (suc n) b u)
      go b [] w = refl
      go b (x ∷ v) w = (turn_shift (items_within n) w).shifts b (x ∷ v)

  all_shift : (b : ℕ) (u : List ℕ) → all_items (d + b) u ≡ shift_reply d (map (shift_item d)) (all_items b u)
  unfolding all_items
  all_shift b u = (within_shift (length u)).shifts b u

  reply_shift : (x : Reply (List Item)) → by_reply (shift_reply d (map (shift_item d)) x) ≡ shift_verdict d (by_reply x)
  unfolding by_reply shift_reply shift_verdict
  reply_shift (ok l c r) = refl
  reply_shift (fail p) = refl
  reply_shift (stop n p) = refl

  utf8_first : (o : Option ℕ) (v : Verdict) → by_utf8 (shift_place d o) (shift_verdict d v) ≡ shift_verdict d (by_utf8 o v)
  unfolding by_utf8 shift_place shift_verdict
  utf8_first None v = refl
  utf8_first (Some p) v = refl

  verdict_shift : (b : ℕ) (u : List ℕ) → verdict_at (d + b) u ≡ shift_verdict d (verdict_at b u)
  unfolding verdict_at
  verdict_shift b u = rw (utf8_shift d b u, all_shift b u, reply_shift (all_items b u)) (utf8_first (utf8_error b u) (by_reply (all_items b u)))

pub verdict_short : (s : List ℕ) → length s ≤ text_limit → verdict s ≡ verdict_at 0 s
unfolding verdict
verdict_short s h = rw (le-leb (length s) text_limit h, verdict) refl

pub verdict_alone : (b : ℕ) (s : List ℕ) → length s ≤ text_limit → verdict_at b s ≡ shift_verdict b (verdict s)
verdict_alone b s h = let z : b + 0 ≡ b = omega arith in (rw z at (verdict_shift b 0 s)) ∙ ap (shift_verdict b) (sym (verdict_short s h))

-- each section is within the limit
abbrev pub EachShort : List (List ℕ) → Type 0
EachShort [] = Unit {0}
EachShort (s ∷ ss) = (length s ≤ text_limit) × EachShort ss

pub each_short : (ss : List (List ℕ)) → length (joined ss) ≤ text_limit → EachShort ss
unfolding joined
each_short [] h = tt
each_short (s ∷ ss) h = let e = length-append s (joined ss) in (omega (arith, h, e), each_short ss (omega (arith, h, e)))

-- the sections' items alone, moved
unfoldable pub moved_items : ℕ → List (List ℕ) → List Item
moved_items b [] = []
moved_items b (s ∷ ss) = map (shift_item b) (items_of (verdict s)) ++ moved_items (b + length s) ss

pub items_shift : (d : ℕ) (v : Verdict) → items_of (shift_verdict d v) ≡ map (shift_item d) (items_of v)
unfolding items_of shift_verdict
items_shift d (accepted l) = refl
items_shift d (turned_down k p) = refl

pub items_alone : (b : ℕ) (ss : List (List ℕ)) → EachShort ss → accepted_items b ss ≡ moved_items b ss
unfolding accepted_items moved_items
items_alone b [] h = refl
items_alone b (s ∷ ss) h = rw (verdict_alone b s h.0, items_shift b (verdict s), items_alone (b + length s) ss h.1)

-- the report
entry_shift : (b n : ℕ) (v : Verdict) → report_entry b n (shift_verdict b v) ≡ entry_alone b n v
unfolding report_entry entry_alone shift_verdict
entry_shift b n (accepted l) = refl
entry_shift b n (turned_down k p) = refl

pub entries_as_alone : (b : ℕ) (ss : List (List ℕ)) → EachShort ss → report_entries b ss ≡ entries_alone b ss
unfolding report_entries entries_alone
entries_as_alone b [] h = refl
entries_as_alone b (s ∷ ss) h = rw (verdict_alone b s h.0, entry_shift b (length s) (verdict s), entries_as_alone (b + length s) ss h.1)
