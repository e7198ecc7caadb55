-- Words, keywords and tags: one law for each way through a reader.
use mathlib.Core.Path.{◌≡◌, refl, sym, ap, ◌∙◌}
use mathlib.Core.List.{List, [], ◌∷◌}
use mathlib.Core.Bool.{Bool, true, false, ◌&&◌, ◌||◌, not, false≢true}
use mathlib.Core.Logic.{◌⊎◌, inl, inr}
use Prim.Native.Nat.{ℕ, zero, suc, ◌+◌, ◌-◌, ◌/◌, ◌≤◌, ◌<◌, zero-le}
use native.Mathlib.Omega.{arith}
use lib.Bits.{bit_or}
use lib.Count.{count_trailing_zeros, trailing_le}
use lib.Dec.{eqb, ltb}
use lib.ListN.{length, drop, get_or}
use borrow.Author.Count.{below_none, below_more}
use borrow.Author.Tests.{eq-eqb, ne_eqb, ltb-true, ltb-false}
use Rattle.std.specs.List.{list_all}
use Rattle.lexing.specs.bytes.{within, is_letter, is_digit, is_word, lower, list_take_while, list_drop_while}
use Rattle.lexing.specs.reply.{Reply, ok, fail, stop, Parser, ret, ◌>>=◌, position, fail_at, pick}
use Rattle.lexing.specs.words.{Word, word, bytes_of, parse_id, is_key_letter, are_key_letters, is_key, is_keyword, keyword, tag}
use Rattle.lexing.specs.answers.{Rest, lost_reply, word_at, word_reply, WordAt, Lost}
use Rattle.lexing.specs.inner.eights.{pack, bytes_from, failing, is_alpha}
use Rattle.lexing.specs.inner.words.{word_end, is_key_byte, Agree, KeyAt, HasKey}
use Rattle.std.specs.Prelude.{Ok, Err}
use Rattle.lexing.specs.answers.{Step}
use Rattle.lexing.specs.declared.answers.LostBy.TheVariants.{Fail}
use Rattle.lexing.proofs.Scans.{first_of, take_run, drop_run, run_le, run_byte, run_stops, run_passes, RunAt, turns, runs_on}
use Rattle.lexing.proofs.TokenRuns.{id_nil, id_yes, id_no}
use Rattle.lexing.proofs.Slicing.{Took, rest_from, word_took}
use Rattle.lexing.proofs.eights.Laws.{Bytes, pack_alike, no_bits, passing}
use Rattle.lexing.proofs.EveryByte.{every, every_at, same, alike_at}
use Rattle.lexing.proofs.Tests.{eq_of, and_left, and_right, false_if, digit_no_letter, letter_word}

pub no_letter : is_letter 0 ≡ false
unfolding is_letter within
no_letter = refl

-- words
parse_id_run : (b : ℕ) (u : List ℕ) → is_letter (get_or u 0 0) ≡ true → parse_id b u ≡ ok (word b (list_take_while is_word u)) (b + length (list_take_while is_word u)) (list_drop_while is_word u)
parse_id_run b [] e = absurd (false≢true (sym no_letter ∙ e))
parse_id_run b (x ∷ u) e = id_yes b x u e

-- the same with the run by its length, as an answer gives it
parse_id_yes : (b : ℕ) (u : List ℕ) (n : ℕ) → is_letter (get_or u 0 0) ≡ true → n ≡ length (list_take_while is_word u) → ok (word_at b u (b + n)) (b + n) (drop (b + n - b) u) ≡ parse_id b u
parse_id_yes b u n e h = let z : b + n - b ≡ n = omega arith in rw (z, h) (rw (take_run is_word u, drop_run is_word u) (sym (parse_id_run b u e)))

parse_id_no : (b : ℕ) (u : List ℕ) → is_letter (get_or u 0 0) ≡ false → fail b ≡ parse_id b u
parse_id_no b [] e = sym (id_nil b)
parse_id_no b (x ∷ u) e = sym (id_no b x u e)

-- tags
pub tag_end : (t b : ℕ) (u : List ℕ) → length u ≡ 0 → fail b ≡ tag t b u
unfolding tag
tag_end t b [] e = refl
tag_end t b (x ∷ u) e = absurd (omega arith)

pub tag_yes : (t b : ℕ) (u : List ℕ) → 0 < length u → get_or u 0 0 ≡ t → ok tt (b + 1) (drop (b + 1 - b) u) ≡ tag t b u
unfolding tag
tag_yes t b [] h e = absurd (omega arith)
tag_yes t b (x ∷ u) h e = let z : b + 1 - b ≡ 1 = omega arith in let y : b + 1 ≡ suc b = omega arith in rw (z, y, eq-eqb _ _ e, tag)

pub tag_no : (t b : ℕ) (u : List ℕ) → 0 < length u → (get_or u 0 0 ≡ t → ⊥) → fail b ≡ tag t b u
unfolding tag
tag_no t b [] h e = absurd (omega arith)
tag_no t b (x ∷ u) h e = rw (ne_eqb _ _ e, tag)

-- keywords: a word that starts with a letter is compared as a whole
keyword_none : (k : List ℕ) (b : ℕ) (u : List ℕ) → parse_id b u ≡ fail b → keyword k b u ≡ fail b
unfolding keyword ◌>>=◌ position
keyword_none k b u e = rw (e, keyword, ◌>>=◌)

pub keyword_no_word : (k : List ℕ) (b : ℕ) (u : List ℕ) → is_letter (get_or u 0 0) ≡ false → fail b ≡ keyword k b u
keyword_no_word k b u e = sym (keyword_none k b u (sym (parse_id_no b u e)))

module _ (k : List ℕ) (b : ℕ) (u : List ℕ) (letter : is_letter (get_or u 0 0) ≡ true) where
  pub keyword_other : is_keyword (list_take_while is_word u) k ≡ false → fail b ≡ keyword k b u
  unfolding keyword ◌>>=◌ position pick fail_at bytes_of
  keyword_other e = rw (parse_id_run b u letter, keyword, ◌>>=◌) (rw (e, pick))

  pub keyword_same : is_keyword (list_take_while is_word u) k ≡ true → keyword k b u ≡ ok (word b (list_take_while is_word u)) (b + length (list_take_while is_word u)) (list_drop_while is_word u)
  unfolding keyword ◌>>=◌ position pick ret bytes_of
  keyword_same e = rw (parse_id_run b u letter, keyword, ◌>>=◌) (rw (e, pick))

-- what is read is the keyword; any other word fails at its first byte
abbrev pub Says : List ℕ → ℕ → Reply Word → Type 0
Says k b (ok w c r) = is_keyword (bytes_of w) k ≡ true
Says k b (fail p) = p ≡ b
Says k b (stop n p) = ⊥

pub keyword_says : (k : List ℕ) (b : ℕ) (u : List ℕ) → Says k b (keyword k b u)
unfolding bytes_of
keyword_says k b u = go (is_letter (get_or u 0 0)) refl (is_keyword (list_take_while is_word u) k) refl
  where
    go : (t : Bool) → is_letter (get_or u 0 0) ≡ t → (t' : Bool) → is_keyword (list_take_while is_word u) k ≡ t' → Says k b (keyword k b u)
    go false e t' e' = rw (← keyword_no_word k b u e) refl
    go true e false e' = rw (← keyword_other k b u e e') refl
    go true e true e' = rw (keyword_same k b u e e') e'

-- a word is the keyword where it is as long and all its bytes agree
word_agrees : (w k : List ℕ) → is_keyword w k ≡ true → (length w ≡ length k) × Agree w k (length k)
unfolding is_keyword
word_agrees [] [] e = (refl, λ j h. absurd (omega arith))
word_agrees [] (y ∷ k) e = absurd (false≢true e)
word_agrees (x ∷ w) [] e = absurd (false≢true e)
word_agrees (x ∷ w) (y ∷ k) e =
    let t = word_agrees w k (and_right (eqb (lower x) y) (is_keyword w k) e) in
    (ap suc t.0, bytes (eq_of (lower x) y (and_left (eqb (lower x) y) (is_keyword w k) e)) t.1)
  where
    bytes : lower x ≡ y → Agree w k (length k) → Agree (x ∷ w) (y ∷ k) (suc (length k))
    bytes d t zero h = d
    bytes d t (suc j) h = t j (omega arith)

agrees_word : (w k : List ℕ) → length w ≡ length k → Agree w k (length k) → is_keyword w k ≡ true
unfolding is_keyword
agrees_word [] [] e h = refl
agrees_word [] (y ∷ k) e h = absurd (omega arith)
agrees_word (x ∷ w) [] e h = absurd (omega arith)
agrees_word (x ∷ w) (y ∷ k) e h = rw (eq-eqb (lower x) y (h 0 (omega arith))) (agrees_word w k (omega arith) (λ j l. h (suc j) (omega arith)))

-- what makes a byte the keyword's
lower_up : (x : ℕ) → within 0x41 0x5a x ≡ true → lower x ≡ x + 32
unfolding lower
lower_up x e = rw (e, lower)

lower_kept : (x : ℕ) → within 0x41 0x5a x ≡ false → lower x ≡ x
unfolding lower
lower_kept x e = rw (e, lower)

lower_either : (x : ℕ) → ((within 0x41 0x5a x ≡ true) × (lower x ≡ x + 32)) ⊎ (lower x ≡ x)
lower_either x = go (within 0x41 0x5a x) refl
  where
    go : (t : Bool) → within 0x41 0x5a x ≡ t → ((within 0x41 0x5a x ≡ true) × (lower x ≡ x + 32)) ⊎ (lower x ≡ x)
    go true e = inl (e, lower_up x e)
    go false e = inr (lower_kept x e)

small_word : (x : ℕ) → within 0x61 0x7a x ≡ true → is_word x ≡ true
unfolding is_word is_letter
small_word x e = rw e

capital_letter : (x : ℕ) → within 0x41 0x5a x ≡ true → is_letter x ≡ true
unfolding is_letter
capital_letter x e = go (within 0x61 0x7a x) refl
  where
    go : (t : Bool) → within 0x61 0x7a x ≡ t → is_letter x ≡ true
    go true d = rw d
    go false d = rw (d, e)

alpha_word : (x : ℕ) → is_alpha x ≡ true → is_word x ≡ true
unfolding is_alpha
alpha_word x e = go (lower_either x)
  where
    go : ((within 0x41 0x5a x ≡ true) × (lower x ≡ x + 32)) ⊎ (lower x ≡ x) → is_word x ≡ true
    go (inl c) = letter_word x (capital_letter x c.0)
    go (inr c) = small_word x (rw c at e)

word_letter : (x : ℕ) → is_word x ≡ true → is_digit x ≡ false → is_letter x ≡ true
unfolding is_word
word_letter x w d = go (is_letter x) refl
  where
    go : (t : Bool) → is_letter x ≡ t → is_letter x ≡ true
    go true e = e
    go false e = absurd (false≢true (rw (e, d) at w))

no_word : is_word 0 ≡ false
unfolding is_word is_letter is_digit within
no_word = refl

-- the bytes of a keyword: one is met by itself and, where it is a letter, by its capital
key_bytes : every 256 (λ k. not (is_key_letter k) || every 256 (λ x. same (eqb x k || eqb (bit_or x 0x20) k) (is_key_byte x k))) ≡ true
unfolding every is_key_byte lower is_word is_letter is_digit within
key_bytes = refl

key_byte : (x k : ℕ) → x < 256 → k < 256 → is_key_letter k ≡ true → (eqb x k || eqb (bit_or x 0x20) k) ≡ is_key_byte x k
key_byte x k h l e =
    let all = every_at 256 (λ k. not (is_key_letter k) || every 256 (λ x. same (eqb x k || eqb (bit_or x 0x20) k) (is_key_byte x k))) key_bytes k l in
    alike_at (λ x. eqb x k || eqb (bit_or x 0x20) k) (λ x. is_key_byte x k) (rw e at all) x h

module _ (x k : ℕ) (h : x < 256) (l : k < 256) (e : is_key_letter k ≡ true) where
  pub key_same : x ≡ k → true ≡ is_key_byte x k
  key_same q = rw (eq-eqb x k q) at (key_byte x k h l e)

  pub key_folded : (x ≡ k → ⊥) → eqb (bit_or x 0x20) k ≡ is_key_byte x k
  key_folded q = rw (ne_eqb x k q) at (key_byte x k h l e)

-- a byte that a keyword can begin with, in either case
first_letter : (x : ℕ) → is_key_letter (lower x) ≡ true → is_letter x ≡ true
unfolding is_letter within
first_letter x e = go (lower_either x)
  where
    small : (a b c : Bool) → (a || c) ≡ true → (a || b || c) ≡ true
    small true b c q = refl
    small false true c q = refl
    small false false c q = q

    go : ((within 0x41 0x5a x ≡ true) × (lower x ≡ x + 32)) ⊎ (lower x ≡ x) → is_letter x ≡ true
    go (inl c) = capital_letter x c.0
    go (inr c) = small (within 0x61 0x7a x) (within 0x41 0x5a x) (eqb x 0x5f) (rw c at e)

-- the bytes of a keyword one by one
letter_at : (k : List ℕ) → are_key_letters k ≡ true → (i : ℕ) → i < length k → is_key_letter (get_or k i 0) ≡ true
letter_at [] e i h = absurd (omega arith)
letter_at (x ∷ k) e zero h = and_left (is_key_letter x) (are_key_letters k) e
letter_at (x ∷ k) e (suc i) h = letter_at k (and_right (is_key_letter x) (are_key_letters k) e) i (omega arith)

pub key_letter : (k : List ℕ) → is_key k ≡ true → (i : ℕ) → i < length k → is_key_letter (get_or k i 0) ≡ true
key_letter [] e i h = absurd (omega arith)
key_letter (x ∷ k) e i h = letter_at (x ∷ k) e i h

key_some : (k : List ℕ) → is_key k ≡ true → 0 < length k
key_some [] e = absurd (false≢true e)
key_some (x ∷ k) e = omega arith

letters_all_are : (k : List ℕ) → list_all is_key_letter k ≡ are_key_letters k
letters_all_are [] = refl
letters_all_are (x ∷ k) = ap (λ t. is_key_letter x && t) (letters_all_are k)

pub is_key_all : (k : List ℕ) → 0 < length k → list_all is_key_letter k ≡ is_key k
is_key_all [] h = absurd (omega arith)
is_key_all (x ∷ k) h = letters_all_are (x ∷ k)

-- the letters at the front of eight bytes, told by the number of the bytes
module _ (u : List ℕ) (i w m : ℕ) (b : Bytes (λ j. get_or u j 0)) (e : w ≡ pack 8 (bytes_from u i)) (d : m ≡ failing is_alpha w) (le : i + 8 ≤ length u) {to : ℕ} (r : RunAt is_word u to i) where
  pub letters_some : RunAt is_word u to (i + count_trailing_zeros 64 m / 8)
  letters_some = runs_on is_word u i r (count_trailing_zeros 64 m / 8) (omega (arith, trailing_le 64 m)) (λ j h. alpha_word _ (passing is_alpha u i w m b e d j h))

  pub letters_all : m ≡ 0 → RunAt is_word u to (i + 8)
  letters_all z = rw (no_bits z) at letters_some

-- a run goes on after its first n bytes where the next byte is one of it
run_longer : (u : List ℕ) (n : ℕ) → n ≤ length (list_take_while is_word u) → is_word (get_or u n 0) ≡ true → n < length (list_take_while is_word u)
run_longer u n le e = go (ltb n (length (list_take_while is_word u))) refl
  where
    go : (t : Bool) → ltb n (length (list_take_while is_word u)) ≡ t → n < length (list_take_while is_word u)
    go true q = ltb-true _ _ q
    go false q = let z : n ≡ length (list_take_while is_word u) = omega (arith, ltb-false n (length (list_take_while is_word u)) q) in absurd (false≢true (sym (run_stops is_word no_word u) ∙ (ap (λ (i : ℕ). is_word (get_or u i 0)) (sym z) ∙ e)))

run_shorter : (u : List ℕ) (n : ℕ) → is_word (get_or u n 0) ≡ false → length (list_take_while is_word u) ≤ n
run_shorter u n e = go (ltb n (length (list_take_while is_word u))) refl
  where
    go : (t : Bool) → ltb n (length (list_take_while is_word u)) ≡ t → length (list_take_while is_word u) ≤ n
    go true q = absurd (false≢true (sym e ∙ run_passes is_word u n (ltb-true _ _ q)))
    go false q = ltb-false _ _ q

-- a word at an offset, by the place where it ends
module _ (b c : ℕ) (u : List ℕ) (at : (b ≤ c) × (c ≤ b + length u)) (e : ℕ) (h : e ≡ word_end u (c - b)) where
  rest : Rest b u c (drop (c - b) u)
  rest = rest_from b c u at.0 at.1

  none : is_letter (get_or u (c - b) 0) ≡ false → WordAt parse_id (Err (Fail c)) b u c
  none d = record { at = rest; reads = parse_id_no c (drop (c - b) u) (ap is_letter (first_of (c - b) u) ∙ d) }

  pub word_inside : e ≤ length u
  word_inside = omega (arith, run_le is_word (drop (c - b) u), rest.size)

  pub word_empty : e ≡ c - b → WordAt parse_id (Err (Fail c)) b u c
  word_empty z = none (false_if _ (λ d. omega (arith, run_longer (drop (c - b) u) 0 zero-le (letter_word _ (ap is_letter (first_of (c - b) u) ∙ d)))))

  pub word_digit : is_digit (get_or u (c - b) 0) ≡ true → WordAt parse_id (Err (Fail c)) b u c
  word_digit d = none (digit_no_letter _ d)

  pub word_some : (e ≡ c - b → ⊥) → is_digit (get_or u (c - b) 0) ≡ false → WordAt parse_id (Ok (b + e)) b u c
  word_some some d =
      let n = length (list_take_while is_word (drop (c - b) u)) in
      let z : b + e ≡ c + n = omega (arith, at.0) in
      let w = word_letter _ (run_passes is_word (drop (c - b) u) 0 (pos (c - b) n h some)) (ap is_digit (first_of (c - b) u) ∙ d) in
      record { at = rest; reads = rw z (parse_id_yes c (drop (c - b) u) n w refl) }
    where
      pos : (i n : ℕ) → e ≡ i + n → (e ≡ i → ⊥) → 0 < n
      pos i zero q k = absurd (k (omega arith))
      pos i (suc n) q k = omega arith

-- at the part's own offset
pub word_self : {m : Parser Word} (r : Step) (b : ℕ) (u : List ℕ) → WordAt m r b u b → word_reply r b u ≡ m b u
word_self r b u h = let z : b - b ≡ 0 = omega arith in rw z at h.reads

-- as a step of a sequence: taken, and lost
module _ {b n : ℕ} {u : List ℕ} where
  pub word_at_took : {c : ℕ} → WordAt parse_id (Ok c) b u n → Took parse_id b u n (word_at n (drop (n - b) u) c) c
  word_at_took h = word_took h.at h.reads

  pub word_at_lost : {m : Parser Word} {l : Lost} → WordAt m (Err l) b u n → lost_reply l ≡ m n (drop (n - b) u)
  word_at_lost h = h.reads

-- the comparison
pub key_start : (k u : List ℕ) → length k ≤ length u → KeyAt k u 0
key_start k u h = record { inside = zero-le; enough = h; agree = below_none _; word = zero-le }

pub key_more : (k u : List ℕ) (i : ℕ) → KeyAt k u i → i < length k → is_key_byte (get_or u i 0) (get_or k i 0) ≡ true → KeyAt k u (i + 1)
unfolding is_key_byte
key_more k u i h lt e =
    let l = eq_of _ _ (and_left (eqb (lower (get_or u i 0)) (get_or k i 0)) (is_word (get_or u i 0)) e) in
    let w = and_right (eqb (lower (get_or u i 0)) (get_or k i 0)) (is_word (get_or u i 0)) e in
    record { inside = omega arith; enough = h.enough; agree = below_more _ i h.agree l; word = omega (arith, run_longer u i h.word w) }

-- eight bytes at once
pub key_eight : (k u : List ℕ) → is_key k ≡ true → length k ≤ length u → 8 ≤ length k → Bytes (λ j. get_or u j 0) → Bytes (λ j. get_or k j 0) → pack 8 (bytes_from u 0) ≡ pack 8 (bytes_from k 0) → KeyAt k u 8
key_eight k u key le eight p q e = turns (KeyAt k u) 0 8 (key_start k u le) λ j l h.
    key_more k u (0 + j) h (omega arith) (sym (key_same _ _ (p (0 + j)) (q (0 + j)) (key_letter k key (0 + j) (omega arith)) (pack_alike 8 (bytes_from u 0) (bytes_from k 0) (λ j. p (0 + j)) (λ j. q (0 + j)) e j l)))

pub key_none : (t : Bool) (k : List ℕ) (b : ℕ) (u : List ℕ) → HasKey t k u → t ≡ false → fail b ≡ keyword k b u
key_none t k b u h e = (rw e at h) b

pub key_there : (t : Bool) (k u : List ℕ) → HasKey t k u → t ≡ true → KeyAt k u (length k)
key_there t k u h e = rw e at h

module _ (k : List ℕ) (b : ℕ) (u : List ℕ) where
  not_keyword : (is_keyword (list_take_while is_word u) k ≡ true → ⊥) → fail b ≡ keyword k b u
  not_keyword h = go (is_letter (get_or u 0 0)) refl
    where
      go : (t : Bool) → is_letter (get_or u 0 0) ≡ t → fail b ≡ keyword k b u
      go false e = keyword_no_word k b u e
      go true e = keyword_other k b u e (false_if _ h)

  pub key_short : length u < length k → fail b ≡ keyword k b u
  key_short lt = not_keyword λ e. omega (arith, (word_agrees _ _ e).0, run_le is_word u)

  pub key_differs : (i : ℕ) → i < length k → (lower (get_or u i 0) ≡ get_or k i 0 → is_word (get_or u i 0) ≡ true → ⊥) → fail b ≡ keyword k b u
  key_differs i lt other = not_keyword λ e.
      let t = word_agrees _ _ e in
      let l : i < length (list_take_while is_word u) = omega (arith, t.0) in
      other (ap lower (sym (run_byte is_word u i l)) ∙ t.1 i lt) (run_passes is_word u i l)

  pub key_no_byte : (i : ℕ) → i < length k → is_key_byte (get_or u i 0) (get_or k i 0) ≡ false → fail b ≡ keyword k b u
  unfolding is_key_byte
  key_no_byte i lt e = key_differs i lt (λ l w. false≢true (sym e ∙ rw (eq-eqb (lower (get_or u i 0)) (get_or k i 0) l, w)))

-- a longer word is not the keyword; one that ends there is
module _ (k u : List ℕ) (key : is_key k ≡ true) (h : KeyAt k u (length k)) where
  pub key_longer : is_word (get_or u (length k) 0) ≡ true → (b : ℕ) → fail b ≡ keyword k b u
  key_longer w b = not_keyword k b u λ e. omega (arith, (word_agrees _ _ e).0, run_longer u (length k) h.word w)

  module _ (w : is_word (get_or u (length k) 0) ≡ false) where
    key_size : length k ≡ length (list_take_while is_word u)
    key_size = omega (arith, h.word, run_shorter u (length k) w)

    key_begins : is_letter (get_or u 0 0) ≡ true
    key_begins = let some = key_some k key in first_letter (get_or u 0 0) (rw (h.agree 0 some) (key_letter k key 0 some))

    key_bytes_at : (j : ℕ) → j < length k → lower (get_or (list_take_while is_word u) j 0) ≡ get_or k j 0
    key_bytes_at j l = ap lower (run_byte is_word u j (omega (arith, h.word))) ∙ h.agree j l

    pub key_read : (b : ℕ) → ok (word_at b u (b + length k)) (b + length k) (drop (b + length k - b) u) ≡ keyword k b u
    key_read b = parse_id_yes b u (length k) key_begins key_size ∙ (parse_id_run b u key_begins ∙ sym (keyword_same k b u key_begins (agrees_word _ _ (sym key_size) key_bytes_at)))
