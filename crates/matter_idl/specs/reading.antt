-- Reading a text.
use Rattle.std.specs.Prelude.{ℕ, zero, suc, true, false, List, [], ◌∷◌, leb, length, Option, Some, None}
use Rattle.lexing.specs.reply.{Reply, ok, fail, stop, Parser, ret, ◌>>=◌}
use Rattle.lexing.specs.outcomes.{Outcome, refused, fitted}
use Rattle.lexing.specs.utf8.{utf8_error}
use Rattle.items.specs.items.{Item, item}
use Rattle.items.specs.layout.{Layout, catalogue_bytes, text_limit}
use Rattle.matter_idl.specs.hoisting.{no_ids, hoisted}

-- what a parser reads, or the end of the text
unfoldable pub unless_ended : {A : Type 0} → A → Parser A → Parser A
unless_ended a m = λ b u. elim u [ [] ↦ ok a b [] | x ∷ v ↦ m b (x ∷ v) ]

-- `Idl::parse`, parser.rs line 1430: items until the text ends; each takes a byte or more
unfoldable pub items_within : ℕ → Parser (List Item)
items_within zero = ret []
items_within (suc n) = unless_ended [] (do
  i ← item
  l ← items_within n
  ret (i ∷ l))

unfoldable pub all_items : Parser (List Item)
all_items = λ b u. items_within (length u) b u

-- accepted with its items, or refused by a number with a value
pub data Verdict : Type 0 where
  accepted : List Item → Verdict
  turned_down : ℕ → ℕ → Verdict

-- what is accepted is the whole text: the rest r is empty, which `accepted_many` proves
unfoldable pub by_reply : Reply (List Item) → Verdict
by_reply (ok l c r) = accepted l
by_reply (fail p) = turned_down 3 p
by_reply (stop n p) = turned_down n p

unfoldable pub by_utf8 : Option ℕ → Verdict → Verdict
by_utf8 None v = v
by_utf8 (Some p) v = turned_down 2 p

-- 2, then whichever of 3 to 6 is met first, of bytes from the offset b on
unfoldable pub verdict_at : ℕ → List ℕ → Verdict
verdict_at b u = by_utf8 (utf8_error b u) (by_reply (all_items b u))

-- 1 before them
unfoldable pub verdict : List ℕ → Verdict
verdict u = elim (leb (length u) text_limit) [ true ↦ verdict_at 0 u | false ↦ turned_down 1 text_limit ]

-- then 7
unfoldable pub into_catalogue : Layout → ℕ → Verdict → Outcome
into_catalogue L n (accepted l) = fitted 7 n (catalogue_bytes L (hoisted no_ids l))
into_catalogue L n (turned_down k v) = refused k v

unfoldable pub reading : Layout → List ℕ → ℕ → Outcome
reading L u n = into_catalogue L n (verdict u)
