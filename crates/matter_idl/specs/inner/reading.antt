-- The second pass over a part of a text, after the records of earlier items.
use Rattle.std.specs.Prelude.{ℕ, ◌+◌, ◌-◌, ◌*◌, ◌≤◌, ◌≡◌, List, ◌++◌, length, take, drop}
use Rattle.lexing.specs.reply.{ok}
use Rattle.items.specs.items.{Item}
use Rattle.items.specs.layout.{layout, catalogue_bytes, word_count}
use Rattle.items.specs.declared.writing.Wrote.{Wrote}
use Rattle.lexing.proofs.Truth.{All}
use Rattle.items.proofs.Truth.{ItemTrue}
use Rattle.matter_idl.specs.hoisting.{no_ids, hoisted}
use Rattle.matter_idl.specs.reading.{all_items}
use Rattle.matter_idl.specs.inner.filter.{Filtered}

-- u are a text's bytes from the offset b on
pub record PartOf (t : List ℕ) (b : ℕ) (u : List ℕ) : Type 0 where
  pub inside : b + length u ≤ length t
  pub same : take (length u) (drop b t) ≡ u

-- the hoisted records of items of a text at the front of a buffer, up to end, and a filter that has their ids
pub record HoistedFront (t out filter : List ℕ) (end : ℕ) : Type 0 where
  pub items : List Item
  pub true_items : All (ItemTrue 0 t (length t)) items
  pub tail : List ℕ
  pub bytes : out ≡ catalogue_bytes layout (hoisted no_ids items) ++ tail
  pub ends : end ≡ 8 * word_count layout (hoisted no_ids items)
  pub filtered : Filtered filter t (hoisted no_ids items)

-- the items of a part, hoisted after such records: they are at the front together, and the rest of the buffer is as it was
pub record HoistedAfter {t old filter₀ : List ℕ} {at : ℕ} (f : HoistedFront t old filter₀ at) (b : ℕ) (u : List ℕ) (w : Wrote) (new filter : List ℕ) : Type 0 where
  pub items : List Item
  pub is : ok items w.next (drop (w.next - b) u) ≡ all_items b u
  pub front : HoistedFront t new filter w.to
  pub front_items : front.items ≡ f.items ++ items
  pub front_tail : front.tail ≡ drop (w.to - at) f.tail

-- whichever items those are
abbrev pub HoistedItemsTo : (new filter t old filter₀ : List ℕ) → ℕ → ℕ → List ℕ → Wrote → Type 0
HoistedItemsTo new filter t old filter₀ at b u w = (f : HoistedFront t old filter₀ at) → HoistedAfter f b u w new filter
