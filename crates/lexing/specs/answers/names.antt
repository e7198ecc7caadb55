-- What the readers of `names` read, runs of steps that the grammar has at several places, and what their answers say, as replies of the definitions.
use Rattle.std.specs.Prelude.{ℕ, ◌-◌, ◌<◌, List, drop}
use Rattle.lexing.specs.bytes.{byte}
use Rattle.lexing.specs.reply.{Parser, ◌>>◌}
use Rattle.lexing.specs.words.{Word, parse_id, keyword, tag}
use Rattle.lexing.specs.integers.{positive_integer}
use Rattle.lexing.specs.blanks.{whitespace0, whitespace1}
use Rattle.lexing.specs.answers.{Rest, Read, ReadTo, NameIn, word_between}
use Rattle.lexing.specs.declared.names.Named.{Named}

-- blanks and a name; at least one blank and a name
abbrev pub blank_word : Parser Word
blank_word = do
  whitespace0
  parse_id

abbrev pub gap_word : Parser Word
gap_word = do
  whitespace1
  parse_id

-- a keyword and the name after it
abbrev pub keyword_name : List ℕ → Parser Word
keyword_name k = do
  keyword k
  whitespace1
  parse_id

-- a keyword and the number after it
abbrev pub keyword_number : List ℕ → Parser ℕ
keyword_number k = do
  keyword k
  whitespace1
  positive_integer

-- a colon and the name of a type
abbrev pub type_after : Parser Word
type_after = do
  whitespace0
  tag (byte ":")
  whitespace0
  parse_id

-- an equals sign and a code
abbrev pub equals_code : Parser ℕ
equals_code = do
  tag (byte "=")
  whitespace0
  positive_integer

abbrev pub word_of : ℕ → List ℕ → Named → Word
word_of b u n = word_between b u n.start n.end

-- a name has a byte or more
abbrev pub NamedIn : ℕ → Named → ℕ → Type 0
NamedIn b n c = NameIn b n.start n.end c × (n.start < n.end)

abbrev pub NamedTo : Parser Word → Read Named → ℕ → List ℕ → Type 0
NamedTo m r b u = ReadTo word_of NamedIn m r b u

-- the same from an offset c of a part
pub record NamedAt (m : Parser Word) (r : Read Named) (b : ℕ) (u : List ℕ) (c : ℕ) : Type 0 where
  pub at : Rest b u c (drop (c - b) u)
  pub named : NamedTo m r c (drop (c - b) u)
