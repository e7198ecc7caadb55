-- Word sets: `keywords_set!`, parser.rs line 621.
use Rattle.std.specs.Prelude.{ℕ, ◌+◌, ◌*◌, ◌^◌, Bool, true, false, ◌&&◌, ◌||◌, List, [], ◌∷◌, eqb, length}
use Rattle.lexing.specs.bytes.{ascii}
use Rattle.lexing.specs.reply.{Parser, ret, ◌>>=◌, ◌>>◌, iter, keep}
use Rattle.lexing.specs.words.{Word, bytes_of, any_keyword}
use Rattle.lexing.specs.blanks.{whitespace1}

-- one word more: a blank is before each word but the first
unfoldable pub next_word : List (List ℕ) → List Word → Parser Word
next_word ks [] = any_keyword ks
next_word ks (w ∷ ws) = whitespace1 >> any_keyword ks

unfoldable pub set_step : List (List ℕ) → List Word → Parser (List Word)
set_step ks ws = do
  w ← next_word ks ws
  ret (w ∷ ws)

-- the words read, the last one first; the set ends at the first word that isn't in it
unfoldable pub keywords_set : List (List ℕ) → Parser (List Word)
keywords_set ks = iter (set_step ks) keep []

-- the same bytes
unfoldable pub same_bytes : List ℕ → List ℕ → Bool
same_bytes [] [] = true
same_bytes [] (y ∷ v) = false
same_bytes (x ∷ u) [] = false
same_bytes (x ∷ u) (y ∷ v) = eqb x y && same_bytes u v

-- the Rust's `contains`: a word counts where it is written like the keyword, in lower case
unfoldable pub contains : List Word → List ℕ → Bool
contains [] k = false
contains (w ∷ ws) k = same_bytes (bytes_of w) k || contains ws k

-- one bit a keyword, that of the first keyword the highest
unfoldable pub bit : Bool → ℕ
bit true = 1
bit false = 0

unfoldable pub flags : List (List ℕ) → List Word → ℕ
flags [] ws = 0
flags (k ∷ ks) ws = bit (contains ws k) * 2 ^ length ks + flags ks ws

-- the flags of a set
unfoldable pub set_flags : List (List ℕ) → Parser ℕ
set_flags ks = do
  ws ← keywords_set ks
  ret (flags ks ws)

-- the sets that the Rust reads: before a struct's field, a struct, an event, a command, an attribute
unfoldable pub field_set : List (List ℕ)
field_set = ascii "optional" ∷ ascii "nullable" ∷ ascii "fabric_sensitive" ∷ []

unfoldable pub struct_set : List (List ℕ)
struct_set = ascii "fabric_scoped" ∷ []

unfoldable pub event_set : List (List ℕ)
event_set = ascii "fabric_sensitive" ∷ []

unfoldable pub command_set : List (List ℕ)
command_set = ascii "timed" ∷ ascii "fabric" ∷ []

unfoldable pub attribute_set : List (List ℕ)
attribute_set = ascii "readonly" ∷ ascii "writeonly" ∷ ascii "nosubscribe" ∷ ascii "timedwrite" ∷ []
