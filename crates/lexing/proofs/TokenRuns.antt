-- What the tokens that are runs come to, by the first bytes of the text.
use Prim.Native.Nat.{ℕ, ◌+◌}
use mathlib.Core.Path.{◌≡◌, refl, sym, ◌∙◌, ap}
use mathlib.Core.Bool.{Bool, true, false, ◌&&◌, ◌||◌, true≢false}
use mathlib.Core.List.{List, [], ◌∷◌, ◌++◌}
use native.Mathlib.Omega.{arith}
use lib.Dec.{eqb}
use lib.ListN.{length, length-append}
use Rattle.lexing.specs.bytes.{slash, is_letter, is_digit, is_word, is_hex, is_space, in_line, list_take_while, list_drop_while, number}
use Rattle.lexing.specs.runs.{take_while, take_while1, tag2}
use Rattle.lexing.specs.reply.{ok, fail, Parser, ret, ◌>>=◌, ◌>>◌, catch, position}
use Rattle.lexing.specs.words.{word, parse_id}
use Rattle.lexing.specs.integers.{fitting, hex_integer, decimal_integer}
use Rattle.lexing.specs.blanks.{Whitespace, white, plain, line_comment, multispace1}
use Rattle.lexing.proofs.Tests.{and_left, and_right, letter_word}

-- a run of at least one byte
module _ (f : ℕ → Bool) (b x : ℕ) (u : List ℕ) where
  pub run_yes : f x ≡ true → take_while1 f b (x ∷ u) ≡ ok (list_take_while f (x ∷ u)) (b + length (list_take_while f (x ∷ u))) (list_drop_while f (x ∷ u))
  unfolding take_while1 take_while
  run_yes e = rw (e, take_while1)

  pub run_no : f x ≡ false → take_while1 f b (x ∷ u) ≡ fail b
  unfolding take_while1
  run_no e = rw (e, take_while1)

-- a run, and one after it whose test passes the first's bytes too, are one run
module _ (f g : ℕ → Bool) (h : (x : ℕ) → f x ≡ true → g x ≡ true) where
  two_runs : (u : List ℕ) → list_take_while f u ++ list_take_while g (list_drop_while f u) ≡ list_take_while g u
  unfolding list_take_while list_drop_while
  two_runs [] = refl
  two_runs (x ∷ u) = go (f x) refl (two_runs u)
    where
      go : (t : Bool) → f x ≡ t → list_take_while f u ++ list_take_while g (list_drop_while f u) ≡ list_take_while g u → list_take_while f (x ∷ u) ++ list_take_while g (list_drop_while f (x ∷ u)) ≡ list_take_while g (x ∷ u)
      go true e ih = rw (e, h x e, list_take_while, list_drop_while) (ap (λ l. x ∷ l) ih)
      go false e ih = rw (e, list_take_while, list_drop_while)

  two_rests : (u : List ℕ) → list_drop_while g (list_drop_while f u) ≡ list_drop_while g u
  unfolding list_drop_while
  two_rests [] = refl
  two_rests (x ∷ u) = go (f x) refl (two_rests u)
    where
      go : (t : Bool) → f x ≡ t → list_drop_while g (list_drop_while f u) ≡ list_drop_while g u → list_drop_while g (list_drop_while f (x ∷ u)) ≡ list_drop_while g (x ∷ u)
      go true e ih = rw (e, h x e, list_drop_while) ih
      go false e ih = rw (e, list_drop_while)

-- words
pub id_nil : (b : ℕ) → parse_id b [] ≡ fail b
unfolding parse_id position take_while1 ◌>>=◌
id_nil b = refl

module _ (b x : ℕ) (u : List ℕ) where
  pub id_yes : is_letter x ≡ true → parse_id b (x ∷ u) ≡ ok (word b (list_take_while is_word (x ∷ u))) (b + length (list_take_while is_word (x ∷ u))) (list_drop_while is_word (x ∷ u))
  unfolding parse_id position take_while ◌>>=◌ ret
  id_yes e =
      let front : List ℕ = list_take_while is_letter (x ∷ u) in
      let back : List ℕ = list_take_while is_word (list_drop_while is_letter (x ∷ u)) in
      let z : b + length front + length back ≡ b + length (front ++ back) = omega (arith, length-append front back) in
      rw (run_yes is_letter b x u e, parse_id, ◌>>=◌) (rw (z, two_runs is_letter is_word letter_word (x ∷ u), two_rests is_letter is_word letter_word (x ∷ u)))

  pub id_no : is_letter x ≡ false → parse_id b (x ∷ u) ≡ fail b
  unfolding parse_id position ◌>>=◌
  id_no e = rw (run_no is_letter b x u e, parse_id, ◌>>=◌)

-- integers
pub digits_nil : (b : ℕ) → decimal_integer b [] ≡ fail b
unfolding decimal_integer position take_while1 ◌>>=◌
digits_nil b = refl

module _ (b x : ℕ) (u : List ℕ) where
  pub digits_yes : is_digit x ≡ true → decimal_integer b (x ∷ u) ≡ fitting b (number 10 0 (list_take_while is_digit (x ∷ u))) (b + length (list_take_while is_digit (x ∷ u))) (list_drop_while is_digit (x ∷ u))
  unfolding decimal_integer position ◌>>=◌
  digits_yes e = rw (run_yes is_digit b x u e, decimal_integer, ◌>>=◌)

  pub digits_no : is_digit x ≡ false → decimal_integer b (x ∷ u) ≡ fail b
  unfolding decimal_integer position ◌>>=◌
  digits_no e = rw (run_no is_digit b x u e, decimal_integer, ◌>>=◌)

-- white space and line comments
pub space_nil : (b : ℕ) → multispace1 b [] ≡ fail b
unfolding multispace1 take_while1 ◌>>◌ ◌>>=◌
space_nil b = refl

module _ (b x : ℕ) (u : List ℕ) where
  pub space_yes : is_space x ≡ true → multispace1 b (x ∷ u) ≡ ok white (b + length (list_take_while is_space (x ∷ u))) (list_drop_while is_space (x ∷ u))
  unfolding multispace1 ◌>>◌ ◌>>=◌ ret
  space_yes e = rw (run_yes is_space b x u e, multispace1, ◌>>◌, ◌>>=◌)

  pub space_no : is_space x ≡ false → multispace1 b (x ∷ u) ≡ fail b
  unfolding multispace1 ◌>>◌ ◌>>=◌
  space_no e = rw (run_no is_space b x u e, multispace1, ◌>>◌, ◌>>=◌)

-- a tag of two bytes
module _ (s t b : ℕ) where
  pub tag2_first : (x : ℕ) (u : List ℕ) → eqb x s ≡ false → tag2 s t b (x ∷ u) ≡ fail b
  unfolding tag2
  tag2_first x [] e = refl
  tag2_first x (y ∷ u) e = rw (e, tag2)

  pub tag2_yes : (x y : ℕ) (u : List ℕ) → (eqb x s && eqb y t) ≡ true → tag2 s t b (x ∷ y ∷ u) ≡ ok tt (b + 2) u
  unfolding tag2
  tag2_yes x y u e = rw (e, tag2)

  pub tag2_no : (x y : ℕ) (u : List ℕ) → (eqb x s && eqb y t) ≡ false → tag2 s t b (x ∷ y ∷ u) ≡ fail b
  unfolding tag2
  tag2_no x y u e = rw (e, tag2)

-- a line comment: two slashes, and what is after them
abbrev pub line_text : Parser Whitespace
line_text = take_while1 in_line >> ret plain

pub line_nil : (b : ℕ) → line_comment b [] ≡ fail b
unfolding line_comment tag2 ◌>>◌ ◌>>=◌
line_nil b = refl

pub line_first : (b x : ℕ) (u : List ℕ) → eqb x slash ≡ false → line_comment b (x ∷ u) ≡ fail b
unfolding line_comment ◌>>◌ ◌>>=◌
line_first b x u e = rw (tag2_first slash slash b x u e, line_comment, ◌>>◌, ◌>>=◌)

pub line_one : (b x : ℕ) → line_comment b (x ∷ []) ≡ fail b
unfolding line_comment tag2 ◌>>◌ ◌>>=◌
line_one b x = refl

module _ (b x y : ℕ) (u : List ℕ) where
  pub line_is : (eqb x slash && eqb y slash) ≡ true → line_comment b (x ∷ y ∷ u) ≡ line_text (b + 2) u
  unfolding line_comment ◌>>◌ ◌>>=◌
  line_is e = rw (tag2_yes slash slash b x y u e, line_comment, ◌>>◌, ◌>>=◌)

  pub line_no : (eqb x slash && eqb y slash) ≡ false → line_comment b (x ∷ y ∷ u) ≡ fail b
  unfolding line_comment ◌>>◌ ◌>>=◌
  line_no e = rw (tag2_no slash slash b x y u e, line_comment, ◌>>◌, ◌>>=◌)

pub text_nil : (b : ℕ) → line_text b [] ≡ fail b
unfolding take_while1 ◌>>◌ ◌>>=◌
text_nil b = refl

module _ (b x : ℕ) (u : List ℕ) where
  pub text_yes : in_line x ≡ true → line_text b (x ∷ u) ≡ ok plain (b + length (list_take_while in_line (x ∷ u))) (list_drop_while in_line (x ∷ u))
  unfolding ◌>>◌ ◌>>=◌ ret
  text_yes e = rw (run_yes in_line b x u e, ◌>>◌, ◌>>=◌)

  pub text_no : in_line x ≡ false → line_text b (x ∷ u) ≡ fail b
  unfolding ◌>>◌ ◌>>=◌
  text_no e = rw (run_no in_line b x u e, ◌>>◌, ◌>>=◌)

-- hexadecimal integers, by the first bytes
abbrev is_mark : ℕ → ℕ → Bool
is_mark x y = eqb x 0x30 && (eqb y 0x78 || eqb y 0x58)

abbrev pub is_hex_front : ℕ → ℕ → ℕ → Bool
is_hex_front x y z = eqb x 0x30 && ((eqb y 0x78 || eqb y 0x58) && is_hex z)

abbrev hex_digits : ℕ → Parser ℕ
hex_digits b = take_while1 is_hex >>= λ w. fitting b (number 16 0 w)

module _ (b : ℕ) where
  pub hex_nil : hex_integer b [] ≡ fail b
  unfolding hex_integer position tag2 catch ◌>>=◌ ◌>>◌
  hex_nil = refl

  pub hex_one : (x : ℕ) → hex_integer b (x ∷ []) ≡ fail b
  unfolding hex_integer position tag2 catch ◌>>=◌ ◌>>◌
  hex_one x = refl

  pub hex_other : (x : ℕ) (u : List ℕ) → eqb x 0x30 ≡ false → hex_integer b (x ∷ u) ≡ fail b
  unfolding hex_integer position catch ◌>>=◌ ◌>>◌
  hex_other x u e = rw (tag2_first 0x30 0x78 b x u e, hex_integer, ◌>>=◌, ◌>>◌, catch) (rw (tag2_first 0x30 0x58 b x u e))

  mark_is : (x y : ℕ) (u : List ℕ) (p q r : Bool) → eqb x 0x30 ≡ p → eqb y 0x78 ≡ q → eqb y 0x58 ≡ r → catch (tag2 0x30 0x78) (λ p. tag2 0x30 0x58) b (x ∷ y ∷ u) ≡ elim (p && (q || r)) [ true ↦ ok tt (b + 2) u | false ↦ fail b ]
  unfolding catch
  mark_is x y u false q r i j k = rw (tag2_first 0x30 0x78 b x (y ∷ u) i, catch) (tag2_first 0x30 0x58 b x (y ∷ u) i)
  mark_is x y u true true r i j k = rw (tag2_yes 0x30 0x78 b x y u (rw (i, j)), catch)
  mark_is x y u true false true i j k = rw (tag2_no 0x30 0x78 b x y u (rw (i, j)), catch) (tag2_yes 0x30 0x58 b x y u (rw (i, k)))
  mark_is x y u true false false i j k = rw (tag2_no 0x30 0x78 b x y u (rw (i, j)), catch) (tag2_no 0x30 0x58 b x y u (rw (i, k)))

  marked : (x y : ℕ) (u : List ℕ) → is_mark x y ≡ true → hex_integer b (x ∷ y ∷ u) ≡ hex_digits b (b + 2) u
  unfolding hex_integer position ◌>>=◌ ◌>>◌
  marked x y u e = rw (mark_is x y u _ _ _ refl refl refl, hex_integer, ◌>>=◌, ◌>>◌) (rw e)

  unmarked : (x y : ℕ) (u : List ℕ) → is_mark x y ≡ false → hex_integer b (x ∷ y ∷ u) ≡ fail b
  unfolding hex_integer position ◌>>=◌ ◌>>◌
  unmarked x y u e = rw (mark_is x y u _ _ _ refl refl refl, hex_integer, ◌>>=◌, ◌>>◌) (rw e)

  pub hex_two : (x y : ℕ) → (p : ℕ) × (hex_integer b (x ∷ y ∷ []) ≡ fail p)
  unfolding take_while1 ◌>>=◌
  hex_two x y = go (is_mark x y) refl
    where
      go : (t : Bool) → is_mark x y ≡ t → (p : ℕ) × (hex_integer b (x ∷ y ∷ []) ≡ fail p)
      go true e = (b + 2, marked x y [] e)
      go false e = (b, unmarked x y [] e)

  module _ (x y z : ℕ) where
    mark_front : is_hex_front x y z ≡ true → is_mark x y ≡ true
    mark_front e = let h = and_right (eqb x 0x30) _ e in rw (and_left (eqb x 0x30) _ e, and_left (eqb y 0x78 || eqb y 0x58) (is_hex z) h)

    pub hex_yes : (u : List ℕ) → is_hex_front x y z ≡ true → hex_integer b (x ∷ y ∷ z ∷ u) ≡ fitting b (number 16 0 (list_take_while is_hex (z ∷ u))) (b + (2 + length (list_take_while is_hex (z ∷ u)))) (list_drop_while is_hex (z ∷ u))
    unfolding ◌>>=◌
    hex_yes u e =
        let h : is_hex z ≡ true = and_right (eqb y 0x78 || eqb y 0x58) (is_hex z) (and_right (eqb x 0x30) _ e) in
        let n : b + 2 + length (list_take_while is_hex (z ∷ u)) ≡ b + (2 + length (list_take_while is_hex (z ∷ u))) = omega arith in
        marked x y (z ∷ u) (mark_front e) ∙ rw (run_yes is_hex (b + 2) z u h, ◌>>=◌) (rw n)

    -- it fails at one place, whatever follows
    pub hex_else : is_hex_front x y z ≡ false → (p : ℕ) × ((u : List ℕ) → hex_integer b (x ∷ y ∷ z ∷ u) ≡ fail p)
    unfolding ◌>>=◌
    hex_else e = go (is_mark x y) refl (is_hex z) refl
      where
        go : (t : Bool) → is_mark x y ≡ t → (t' : Bool) → is_hex z ≡ t' → (p : ℕ) × ((u : List ℕ) → hex_integer b (x ∷ y ∷ z ∷ u) ≡ fail p)
        go true i true j = absurd (true≢false (sym (front i j) ∙ e))
          where
            front : is_mark x y ≡ true → is_hex z ≡ true → is_hex_front x y z ≡ true
            front i j = rw (and_left (eqb x 0x30) _ i, and_right (eqb x 0x30) _ i, j)
        go true i false j = (b + 2, λ u. marked x y (z ∷ u) i ∙ rw (run_no is_hex (b + 2) z u j, ◌>>=◌))
        go false i t' j = (b, λ u. unmarked x y (z ∷ u) i)
