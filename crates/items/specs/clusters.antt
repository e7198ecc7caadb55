-- Clusters.
use Rattle.std.specs.Prelude.{ℕ, List, [], ◌∷◌}
use Rattle.lexing.specs.bytes.{ascii, byte}
use Rattle.lexing.specs.reply.{Parser, ret, ◌>>=◌, ◌>>◌, opt, ◌or◌, many0}
use Rattle.lexing.specs.words.{Word, parse_id, keyword, any_keyword, tag}
use Rattle.lexing.specs.integers.{positive_integer}
use Rattle.lexing.specs.blanks.{Doc, whitespace0, whitespace1}
use Rattle.items.specs.entries.{braces, api_maturity, Choice, parse_enum_after_doc_maturity, parse_bitmap_after_doc_maturity}
use Rattle.items.specs.structs.{Struct, parse_struct_after_doc_maturity}
use Rattle.items.specs.members.{Event, parse_event_after_doc_maturity, Command, parse_command_after_doc_maturity, Attribute, parse_attribute_after_doc_maturity}

pub data Member : Type 0 where
  revision : ℕ → Member
  bitmap enum : Choice → Member
  struct : Struct → Member
  attribute : Attribute → Member
  command : Command → Member
  event : Event → Member

-- `map`
unfoldable pub mapped : {A B : Type 0} → Parser A → (A → B) → Parser B
mapped m f = do
  a ← m
  ret (f a)

unfoldable pub parse_revision : Parser Member
parse_revision = do
  keyword (ascii "revision")
  whitespace1
  n ← positive_integer
  whitespace0
  tag (byte ";")
  ret (revision n)

-- the tries of `parse_cluster_member`, in order
unfoldable pub member_tries : Doc → ℕ → Parser Member
member_tries d m =
    parse_revision or
    mapped (parse_bitmap_after_doc_maturity d m) bitmap or
    mapped (parse_enum_after_doc_maturity d m) enum or
    mapped (parse_struct_after_doc_maturity d m) struct or
    mapped (parse_attribute_after_doc_maturity d m) attribute or
    mapped (parse_command_after_doc_maturity d m) command or
    mapped (parse_event_after_doc_maturity d m) event

-- `parse_cluster_member`, parser.rs line 979; a member that fails passes no place on, since `parse_cluster` repeats it
unfoldable pub parse_cluster_member : Parser Member
parse_cluster_member = do
  d ← whitespace0
  m ← api_maturity
  whitespace0
  member_tries d m

unfoldable pub cluster_members : Parser (List Member)
cluster_members = many0 parse_cluster_member

-- `parse_cluster`, parser.rs line 1026
pub record Cluster : Type 0 where
  pub doc : Doc
  pub maturity : ℕ
  pub name : Word
  pub code : ℕ
  pub members : List Member

unfoldable pub side : Parser Word
side = do
  w ← any_keyword (ascii "client" ∷ ascii "server" ∷ [])
  whitespace1
  ret w

-- from the side up to the braces
pub record ClusterHead : Type 0 where
  pub id : Word
  pub number : ℕ

unfoldable pub cluster_head : Parser ClusterHead
cluster_head = do
  opt side
  keyword (ascii "cluster")
  whitespace1
  n ← parse_id
  whitespace0
  tag (byte "=")
  whitespace0
  c ← positive_integer
  whitespace0
  ret (record { id = n; number = c })

unfoldable pub cluster_after_doc_maturity : Doc → ℕ → Parser Cluster
cluster_after_doc_maturity d m = do
  h ← cluster_head
  ms ← braces cluster_members
  ret (record { doc = d; maturity = m; name = h.id; code = h.number; members = ms })

unfoldable pub parse_cluster : Parser Cluster
parse_cluster = do
  d ← whitespace0
  m ← api_maturity
  whitespace0
  cluster_after_doc_maturity d m
