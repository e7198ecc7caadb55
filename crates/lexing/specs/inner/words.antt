-- What the private functions of the readers of words promise.
use Rattle.std.specs.Prelude.{ℕ, ◌+◌, ◌≤◌, ◌<◌, ◌≡◌, Bool, true, false, ◌&&◌, List, eqb, length, drop, get_or}
use Rattle.lexing.specs.bytes.{is_word, lower, list_take_while}
use Rattle.lexing.specs.reply.{fail}
use Rattle.lexing.specs.words.{keyword}

-- the place after the bytes of a word that are from place i on
abbrev pub word_end : List ℕ → ℕ → ℕ
word_end u i = i + length (list_take_while is_word (drop i u))

-- a byte of a word that is, in lower case, the keyword's byte k
unfoldable pub is_key_byte : ℕ → ℕ → Bool
is_key_byte x k = eqb (lower x) k && is_word x

-- the first i bytes of w, in lower case, are those of k
abbrev pub Agree : List ℕ → List ℕ → ℕ → Type 0
Agree w k i = (j : ℕ) → j < i → lower (get_or w j 0) ≡ get_or k j 0

-- the first i bytes of u are bytes of a word, and those of the keyword k
pub record KeyAt (k u : List ℕ) (i : ℕ) : Type 0 where
  pub inside : i ≤ length k
  pub enough : length k ≤ length u
  pub agree : Agree u k i
  pub word : i ≤ length (list_take_while is_word u)

-- whether all bytes of the keyword k are so at the front of u; where they are not, it is not read there
abbrev pub HasKey : Bool → List ℕ → List ℕ → Type 0
HasKey true k u = KeyAt k u (length k)
HasKey false k u = (b : ℕ) → fail b ≡ keyword k b u
