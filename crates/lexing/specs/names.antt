-- What several parts of an endpoint have in them.
use Rattle.std.specs.Prelude.{ℕ, List}
use Rattle.lexing.specs.bytes.{byte}
use Rattle.lexing.specs.reply.{Parser, ret, ◌>>=◌, ◌>>◌}
use Rattle.lexing.specs.words.{Word, parse_id, keyword, tag}
use Rattle.lexing.specs.blanks.{whitespace0, whitespace1}

-- two keywords and the name after them
unfoldable pub two_keywords_name : List ℕ → List ℕ → Parser Word
two_keywords_name k j = do
  keyword k
  whitespace1
  keyword j
  whitespace1
  parse_id

-- two keywords, a name and a semicolon
unfoldable pub named_after : List ℕ → List ℕ → Parser Word
named_after k j = do
  n ← two_keywords_name k j
  whitespace0
  tag (byte ";")
  ret n
