-- Entries, enums and bitmaps.
use Rattle.std.specs.Prelude.{ℕ, Bool, true, false, List, []}
use Rattle.std.proofs.Math.Option.{Option, none, some}
use Rattle.lexing.specs.bytes.{ascii, byte}
use Rattle.lexing.specs.reply.{Parser, ret, ◌>>=◌, ◌>>◌, opt, ◌or◌, many0, catch, fail_at}
use Rattle.lexing.specs.words.{Word, parse_id, keyword, tag}
use Rattle.lexing.specs.integers.{positive_integer}
use Rattle.lexing.specs.blanks.{Doc, whitespace0, whitespace1}
use Rattle.lexing.specs.strings.{Span, quoted_string}

-- whether an optional part is there
unfoldable pub present : {A : Type 0} → Option A → Bool
present none = false
present (some a) = true

-- what is between braces; mend says which place a missing } is refused at, by what was read and the place where it is missing
unfoldable pub enclosed : {A : Type 0} → Parser A → (A → ℕ → ℕ) → Parser A
enclosed m mend = do
  tag (byte "{")
  a ← m
  catch (whitespace0 >> tag (byte "}")) (λ p. fail_at (mend a p))
  ret a

unfoldable pub where_missing : {A : Type 0} → A → ℕ → ℕ
where_missing a p = p

-- `delimited(tag("{"), .., tuple((whitespace0, tag("}"))))`
unfoldable pub braces : {A : Type 0} → Parser A → Parser A
braces m = enclosed m where_missing

-- `api_maturity`, parser.rs line 131: stable, provisional, internal, deprecated = 0 to 3; it can't fail
unfoldable pub api_maturity : Parser ℕ
api_maturity =
    (keyword (ascii "stable") >> ret 0) or
    (keyword (ascii "provisional") >> ret 1) or
    (keyword (ascii "internal") >> ret 2) or
    (keyword (ascii "deprecated") >> ret 3) or
    ret 0

-- `constant_annotation`, parser.rs line 415
pub record Annotation : Type 0 where
  pub key : Word
  pub value : Span

unfoldable pub constant_annotation : Parser Annotation
constant_annotation = do
  whitespace0
  k ← parse_id
  whitespace0
  tag (byte "=")
  whitespace0
  v ← quoted_string
  whitespace0
  opt (tag (byte ","))
  ret (record { key = k; value = v })

-- `constant_annotations_list`, parser.rs line 433: none, or those in brackets
unfoldable pub blank_annotation : Parser Annotation
blank_annotation = whitespace0 >> constant_annotation

unfoldable pub annotations_in_brackets : Parser (List Annotation)
annotations_in_brackets = do
  tag (byte "[")
  l ← many0 blank_annotation
  whitespace0
  tag (byte "]")
  ret l

unfoldable pub constant_annotations_list : Parser (Option (List Annotation))
constant_annotations_list = opt annotations_in_brackets

-- where there are no brackets, there is no annotation
unfoldable pub annotations_of : Option (List Annotation) → List Annotation
annotations_of none = []
annotations_of (some l) = l

-- `constant_entry`, parser.rs line 468; the annotations, which the Rust drops, are kept: document 02, L1
pub record Entry : Type 0 where
  pub maturity : ℕ
  pub name : Word
  pub code : ℕ
  pub annotations : List Annotation

unfoldable pub constant_entry : Parser Entry
constant_entry = do
  whitespace0
  m ← api_maturity
  whitespace0
  n ← parse_id
  whitespace0
  tag (byte "=")
  whitespace0
  c ← positive_integer
  whitespace0
  a ← constant_annotations_list
  whitespace0
  tag (byte ";")
  ret (record { maturity = m; name = n; code = c; annotations = annotations_of a })

-- `constant_entries_list`, parser.rs line 496
unfoldable pub blank_entry : Parser Entry
blank_entry = whitespace0 >> constant_entry

unfoldable pub constant_entries : Parser (List Entry)
constant_entries = many0 blank_entry

unfoldable pub constant_entries_list : Parser (List Entry)
constant_entries_list = braces constant_entries

-- an enum or a bitmap
pub record Choice : Type 0 where
  pub shared : Bool
  pub doc : Doc
  pub maturity : ℕ
  pub name : Word
  pub base : Word
  pub entries : List Entry

-- `opt(tuple((keyword("shared"), whitespace1)))`
unfoldable pub shared_before : Parser Word
shared_before = do
  w ← keyword (ascii "shared")
  whitespace1
  ret w

-- an enum or a bitmap up to its entries
pub record ChoiceHead : Type 0 where
  pub head_shared : Bool
  pub head_name : Word
  pub head_base : Word

unfoldable pub choice_head : List ℕ → Parser ChoiceHead
choice_head k = do
  s ← opt shared_before
  keyword k
  whitespace1
  n ← parse_id
  whitespace0
  tag (byte ":")
  whitespace0
  t ← parse_id
  whitespace0
  ret (record { head_shared = present s; head_name = n; head_base = t })

-- `parse_enum_after_doc_maturity`, parser.rs line 517, and `parse_bitmap_after_doc_maturity`, parser.rs line 553: one but for the keyword
unfoldable pub choice_after_doc_maturity : List ℕ → Doc → ℕ → Parser Choice
choice_after_doc_maturity k d m = do
  h ← choice_head k
  es ← constant_entries_list
  ret (record { shared = h.head_shared; doc = d; maturity = m; name = h.head_name; base = h.head_base; entries = es })

unfoldable pub parse_enum_after_doc_maturity : Doc → ℕ → Parser Choice
parse_enum_after_doc_maturity = choice_after_doc_maturity (ascii "enum")

unfoldable pub parse_bitmap_after_doc_maturity : Doc → ℕ → Parser Choice
parse_bitmap_after_doc_maturity = choice_after_doc_maturity (ascii "bitmap")
