-- Words, keywords and tags.
use Rattle.std.specs.Prelude.{ℕ, suc, Bool, true, false, ◌&&◌, ◌||◌, List, [], ◌∷◌, ◌++◌, leb, eqb}
use Rattle.lexing.specs.bytes.{underscore, is_letter, is_word, lower}
use Rattle.lexing.specs.runs.{take_while, take_while1}
use Rattle.lexing.specs.reply.{ok, fail, Parser, ret, ◌>>=◌, ◌or◌, position, fail_at, pick}

-- its offset and its bytes
pub data Word : Type 0 where
  word : ℕ → List ℕ → Word

unfoldable pub offset_of : Word → ℕ
offset_of (word o w) = o

unfoldable pub bytes_of : Word → List ℕ
bytes_of (word o w) = w

-- `parse_id`, parser.rs line 403: /[a-zA-Z_][a-zA-Z0-9_]*/
unfoldable pub parse_id : Parser Word
parse_id = do
  start ← position
  front ← take_while1 is_letter
  back ← take_while is_word
  ret (word start (front ++ back))

-- what a keyword is made of: letters from a to z and underscores. It is no `within`, which has to be unfolded, so that it computes where a function is handed a literal
abbrev pub is_key_letter : ℕ → Bool
is_key_letter x = leb 0x61 x && leb x 0x7a || eqb x underscore

abbrev pub are_key_letters : List ℕ → Bool
are_key_letters [] = true
are_key_letters (x ∷ k) = is_key_letter x && are_key_letters k

-- a keyword that the readers take: it has at least one byte
abbrev pub is_key : List ℕ → Bool
is_key [] = false
is_key (x ∷ k) = are_key_letters (x ∷ k)

-- `eq_ignore_ascii_case` with a keyword k, which is in lower case
unfoldable pub is_keyword : List ℕ → List ℕ → Bool
is_keyword [] [] = true
is_keyword [] (y ∷ k) = false
is_keyword (x ∷ w) [] = false
is_keyword (x ∷ w) (y ∷ k) = eqb (lower x) y && is_keyword w k

-- a word in lower case, without a byte from A to Z, is a keyword of itself
abbrev pub is_lower : List ℕ → Bool
is_lower w = is_keyword w w

-- `keyword`, parser.rs line 173: a whole word; another word fails at its first byte
unfoldable pub keyword : List ℕ → Parser Word
keyword k = do
  start ← position
  w ← parse_id
  pick (is_keyword (bytes_of w) k) (ret w) (fail_at start)

-- `alt` of keywords
unfoldable pub any_keyword : List (List ℕ) → Parser Word
any_keyword [] = λ b u. fail b
any_keyword (k ∷ ks) = keyword k or any_keyword ks

-- nom's `tag` of one byte
unfoldable pub tag : ℕ → Parser (Unit {0})
tag t b [] = fail b
tag t b (x ∷ u) = elim (eqb x t) [ true ↦ ok tt (suc b) u | false ↦ fail b ]
