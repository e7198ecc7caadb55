-- What the private functions of the reader of word sets promise.
use Rattle.std.specs.Prelude.{ℕ, suc, ◌+◌, ◌-◌, ◌/◌, ◌%◌, ◌^◌, ◌≤◌, ◌<◌, ◌≡◌, Bool, true, false, ◌||◌, List, [], ◌∷◌, Option, Some, None, eqb, length, take, drop, get_or}
use Rattle.lexing.specs.reply.{Reply, ok, fail, Parser, ret, ◌>>◌}
use Rattle.lexing.specs.words.{is_key, is_lower, keyword}
use Rattle.lexing.specs.blanks.{whitespace1}
use Rattle.lexing.specs.answers.{word_at, set_of}
use Rattle.lexing.specs.inner.eights.{pack, bytes_from}
use Rattle.lexing.specs.declared.word_sets.KeywordSet.{KeywordSet}

-- the offset after the keyword k, or b where it is not there
pub data KeywordEnd (k : List ℕ) (b : ℕ) (u : List ℕ) (r : ℕ) : Type 0 where
  there : b < r → ok (word_at b u r) r (drop (r - b) u) ≡ keyword k b u → KeywordEnd k b u r
  missing : r ≡ b → fail b ≡ keyword k b u → KeywordEnd k b u r

-- a blank before each word but the first
unfoldable pub set_gap : Bool → Parser (Unit {0})
set_gap true = ret tt
set_gap false = whitespace1 >> ret tt

-- where the next word may start
abbrev pub start_reply : Option ℕ → ℕ → List ℕ → Reply (Unit {0})
start_reply (Some c) b u = ok tt c (drop (c - b) u)
start_reply None b u = fail b

-- flags with the bit p, where the word counts
unfoldable pub with_flag : Bool → ℕ → ℕ → ℕ
with_flag false p f = f
with_flag true p f = elim (eqb (f / p % 2) 1) [ true ↦ f | false ↦ f + p ]

-- whether one of several keywords can begin with the byte x
unfoldable pub initial : ℕ → List (List ℕ) → Bool
initial x [] = false
initial x ([] ∷ ks) = true
initial x ((y ∷ k) ∷ ks) = eqb x y || initial x ks

-- of the first n bytes those before i are in lower case: all are if those after them are
pub record LowerAt (u : List ℕ) (n i : ℕ) : Type 0 where
  pub inside : i ≤ n
  pub left : is_lower (drop i (take n u)) ≡ is_lower (take n u)

-- the keyword k has eight bytes, and they are those of w
pub record IsEight (w : ℕ) (k : List ℕ) : Type 0 where
  pub key : is_key k ≡ true
  pub eight : length k ≡ 8
  pub same : w ≡ pack 8 (bytes_from k 0)

-- the flag of a set's keyword with the eight bytes of w, which j others follow, or 0
pub data EightFlag (r : ℕ) (set : KeywordSet) (w : ℕ) : Type 0 where
  some : (k j : ℕ) → suc (k + j) ≡ length (set_of set) → IsEight w (get_or (set_of set) k []) → r ≡ 2 ^ j → EightFlag r set w
  none : r ≡ 0 → EightFlag r set w
