-- Blanks: white space and comments.
use Rattle.std.specs.Prelude.{ℕ, zero, suc, ◌+◌, true, false, ◌&&◌, List, [], ◌∷◌, eqb}
use Rattle.lexing.specs.bytes.{slash, star, is_space, in_line}
use Rattle.lexing.specs.runs.{take_while1, tag2}
use Rattle.lexing.specs.reply.{Reply, ok, fail, Parser, ret, ◌>>=◌, ◌>>◌, catch, iter, keep, position, fail_at, pick}

-- one blank, as the Rust's `Whitespace`: white space, a comment that is no doc comment, or a doc comment's text, its offset and length
pub data Whitespace : Type 0 where
  white plain : Whitespace
  doc_comment : ℕ → ℕ → Whitespace

-- `preceded(tag("//"), is_not("\n\r"))`: a line comment has at least one byte
unfoldable pub line_comment : Parser Whitespace
line_comment = do
  tag2 slash slash
  take_while1 in_line
  ret plain

-- `take_until("*/")` with the `*/` after it: how many bytes are before, and the rest
pub data Until : Type 0 where
  found : ℕ → List ℕ → Until
  never : Until

unfoldable pub one_more : Until → Until
one_more (found n r) = found (suc n) r
one_more never = never

unfoldable pub until_close : List ℕ → Until
until_close [] = never
until_close (x ∷ []) = never
until_close (x ∷ y ∷ u) = elim (eqb x star && eqb y slash) [ true ↦ found 0 u | false ↦ one_more (until_close (y ∷ u)) ]

-- a text of n bytes after `/*`: a doc comment where it starts with a star
unfoldable pub comment_kind : ℕ → ℕ → List ℕ → Whitespace
comment_kind b zero v = plain
comment_kind b (suc n) [] = plain
comment_kind b (suc n) (x ∷ v) = elim (eqb x star) [ true ↦ doc_comment (b + 3) n | false ↦ plain ]

unfoldable pub closed : ℕ → List ℕ → Until → Reply Whitespace
closed b v (found n r) = ok (comment_kind b n v) (b + (4 + n)) r
closed b v never = fail b

-- `delimited(tag("/*"), take_until("*/"), tag("*/"))`
unfoldable pub block_comment : Parser Whitespace
block_comment b [] = fail b
block_comment b (x ∷ []) = fail b
block_comment b (x ∷ y ∷ v) = elim (eqb x slash && eqb y star) [ true ↦ closed b v (until_close v) | false ↦ fail b ]

-- nom's `multispace1`
unfoldable pub multispace1 : Parser Whitespace
multispace1 = do
  take_while1 is_space
  ret white

-- `whitespace_group`, parser.rs line 288
unfoldable pub whitespace_group : Parser Whitespace
whitespace_group = catch line_comment λ p. catch block_comment λ q. multispace1

-- the doc comment of a run: its text's offset and length
pub data Doc : Type 0 where
  no_doc : Doc
  doc_at : ℕ → ℕ → Doc

-- the last comment of a run decides; white space does not
unfoldable pub doc_after : Whitespace → Doc → Doc
doc_after white d = d
doc_after plain d = no_doc
doc_after (doc_comment o n) d = doc_at o n

unfoldable pub one_blank : Doc → Parser Doc
one_blank d = do
  g ← whitespace_group
  ret (doc_after g d)

-- `whitespace0`, parser.rs line 341
unfoldable pub whitespace0 : Parser Doc
whitespace0 = iter one_blank keep no_doc

-- `whitespace1`, parser.rs line 389: where nothing was read it fails
unfoldable pub whitespace1 : Parser Doc
whitespace1 = do
  start ← position
  d ← whitespace0
  end ← position
  pick (eqb start end) (fail_at start) (ret d)
