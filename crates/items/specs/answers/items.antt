-- What the answers of the readers of items say, as replies of the definitions.
use Rattle.lexing.specs.answers.{Read}
use Rattle.std.specs.Prelude.{ℕ, List}
use Rattle.lexing.specs.blanks.{Doc, whitespace0}
use Rattle.items.specs.items.{Item, cluster_item, endpoint_item, enum_item, bitmap_item, struct_item}
use Rattle.items.specs.records.{Record, item_records}
use Rattle.items.specs.answers.{CountsTo}
use Rattle.lexing.specs.reply.{Parser, ◌>>=◌, ◌>>◌, ◌or◌}
use Rattle.items.specs.entries.{api_maturity, parse_enum_after_doc_maturity, parse_bitmap_after_doc_maturity}
use Rattle.items.specs.structs.{parse_struct_after_doc_maturity}
use Rattle.items.specs.clusters.{mapped, cluster_after_doc_maturity}
use Rattle.items.specs.endpoints.{endpoint}

-- an item's records before hoisting: a type at the top is global, one in a cluster is the cluster's own
abbrev pub unhoisted_item : Item → List Record
unhoisted_item i = item_records 1 (λ m. 0) i

-- An item after the blanks, whose doc comment is d: a declaration is an item that is not blank.
unfoldable pub after_maturity : {A : Type 0} → (ℕ → Parser A) → Parser A
after_maturity f = do
  m ← api_maturity
  whitespace0
  f m

unfoldable pub declaration : Doc → Parser Item
declaration d =
    mapped (after_maturity (cluster_after_doc_maturity d)) cluster_item or
    mapped endpoint endpoint_item or
    mapped (after_maturity (parse_enum_after_doc_maturity d)) enum_item or
    mapped (after_maturity (parse_bitmap_after_doc_maturity d)) bitmap_item or
    mapped (after_maturity (parse_struct_after_doc_maturity d)) struct_item

-- the count of a declaration, whatever the doc comment before it
abbrev pub DeclarationCountTo : Read ℕ → ℕ → List ℕ → Type 0
DeclarationCountTo r b u = CountsTo {I = Doc} (λ d. unhoisted_item) declaration r b u
