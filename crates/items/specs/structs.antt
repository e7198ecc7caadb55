-- Fields and structs.
use Rattle.std.specs.Prelude.{ℕ, Bool, List, [], ◌∷◌}
use Rattle.std.proofs.Math.Option.{Option, none, some}
use Rattle.lexing.specs.bytes.{ascii, byte}
use Rattle.lexing.specs.reply.{Parser, ret, ◌>>=◌, ◌>>◌, opt, many0, pick}
use Rattle.lexing.specs.words.{Word, bytes_of, parse_id, keyword, any_keyword, tag}
use Rattle.lexing.specs.integers.{positive_integer}
use Rattle.lexing.specs.blanks.{Doc, whitespace0, whitespace1}
use Rattle.lexing.specs.word_sets.{same_bytes, set_flags, field_set, struct_set}
use Rattle.items.specs.entries.{present, braces, api_maturity}

-- `parse_field`, parser.rs line 583
pub record Field : Type 0 where
  pub data_type : Word
  pub maximum : Option ℕ
  pub name : Word
  pub list : Bool
  pub code : ℕ

unfoldable pub max_length : Parser ℕ
max_length = do
  whitespace0
  tag (byte "<")
  whitespace0
  n ← positive_integer
  whitespace0
  tag (byte ">")
  ret n

unfoldable pub list_marker : Parser (Unit {0})
list_marker = do
  tag (byte "[")
  whitespace0
  tag (byte "]")
  whitespace0
  ret tt

unfoldable pub parse_field : Parser Field
parse_field = do
  whitespace0
  t ← parse_id
  x ← opt max_length
  whitespace1
  n ← parse_id
  whitespace0
  l ← opt list_marker
  tag (byte "=")
  whitespace0
  c ← positive_integer
  ret (record { data_type = t; maximum = x; name = n; list = present l; code = c })

-- `parse_struct_field`, parser.rs line 650; flags: optional, nullable, fabric sensitive
pub record StructField : Type 0 where
  pub maturity : ℕ
  pub flags : ℕ
  pub field : Field

unfoldable pub parse_struct_field : Parser StructField
parse_struct_field = do
  whitespace0
  m ← api_maturity
  whitespace0
  q ← set_flags field_set
  f ← parse_field
  ret (record { maturity = m; flags = q; field = f })

-- `struct_fields`, parser.rs line 672
unfoldable pub closed_field : Parser StructField
closed_field = do
  whitespace0
  f ← parse_struct_field
  whitespace0
  tag (byte ";")
  ret f

unfoldable pub fields_run : Parser (List StructField)
fields_run = many0 closed_field

unfoldable pub struct_fields : Parser (List StructField)
struct_fields = braces fields_run

-- ast.rs: `StructType`; only a response has a code
pub data StructType : Type 0 where
  regular request shared : StructType
  response : ℕ → StructType

pub record Struct : Type 0 where
  pub doc : Doc
  pub maturity : ℕ
  pub struct_type : StructType
  pub fabric_scoped : ℕ
  pub name : Word
  pub fields : List StructField

unfoldable pub response_code : Parser StructType
response_code = do
  tag (byte "=")
  whitespace0
  c ← positive_integer
  whitespace0
  ret (response c)

-- `match struct_type` of the word before the struct, which counts in lower case only
unfoldable pub type_by_word : List ℕ → Parser StructType
type_by_word w =
    pick (same_bytes w (ascii "request")) (ret request)
    (pick (same_bytes w (ascii "response")) response_code
    (pick (same_bytes w (ascii "shared")) (ret shared) (ret regular)))

unfoldable pub struct_type_of : Option Word → Parser StructType
struct_type_of none = ret regular
struct_type_of (some w) = type_by_word (bytes_of w)

-- `parse_struct_after_doc_maturity`, parser.rs line 693: up to the fields
pub record StructHead : Type 0 where
  pub head_type : StructType
  pub head_scoped : ℕ
  pub head_name : Word

unfoldable pub struct_head : Parser StructHead
struct_head = do
  k ← opt (any_keyword (ascii "request" ∷ ascii "response" ∷ ascii "shared" ∷ []))
  whitespace0
  q ← set_flags struct_set
  whitespace0
  keyword (ascii "struct")
  whitespace1
  n ← parse_id
  whitespace0
  t ← struct_type_of k
  ret (record { head_type = t; head_scoped = q; head_name = n })

unfoldable pub parse_struct_after_doc_maturity : Doc → ℕ → Parser Struct
parse_struct_after_doc_maturity d m = do
  h ← struct_head
  fs ← struct_fields
  ret (record { doc = d; maturity = m; struct_type = h.head_type; fabric_scoped = h.head_scoped; name = h.head_name; fields = fs })
