-- Items: what is at the top of a text.
use Rattle.std.specs.Prelude.{ℕ}
use Rattle.lexing.specs.reply.{Parser, ret, ◌>>=◌, ◌>>◌, ◌or◌}
use Rattle.lexing.specs.blanks.{Doc, whitespace0, whitespace1}
use Rattle.items.specs.entries.{api_maturity, Choice, parse_enum_after_doc_maturity, parse_bitmap_after_doc_maturity}
use Rattle.items.specs.structs.{Struct, parse_struct_after_doc_maturity}
use Rattle.items.specs.clusters.{mapped, Cluster, parse_cluster}
use Rattle.items.specs.endpoints.{Endpoint, endpoint}

pub data Item : Type 0 where
  cluster_item : Cluster → Item
  endpoint_item : Endpoint → Item
  enum_item bitmap_item : Choice → Item
  struct_item : Struct → Item
  blank_item : Item

-- `parse_enum`, parser.rs line 509, `parse_bitmap`, parser.rs line 545, and `parse_struct`, parser.rs line 685: doc comment and maturity, then the declaration
unfoldable pub with_doc_maturity : {A : Type 0} → (Doc → ℕ → Parser A) → Parser A
with_doc_maturity f = do
  d ← whitespace0
  whitespace0
  m ← api_maturity
  whitespace0
  f d m

-- the alt of `Idl::parse`, parser.rs line 1435: the six tries, with the furthest place of any of them
unfoldable pub item : Parser Item
item =
    mapped parse_cluster cluster_item or
    mapped endpoint endpoint_item or
    mapped (with_doc_maturity parse_enum_after_doc_maturity) enum_item or
    mapped (with_doc_maturity parse_bitmap_after_doc_maturity) bitmap_item or
    mapped (with_doc_maturity parse_struct_after_doc_maturity) struct_item or
    (whitespace1 >> ret blank_item)
