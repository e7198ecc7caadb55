-- Word sets: one law for each way through a reader.
use mathlib.Core.Path.{◌≡◌, refl, sym, ap, ◌∙◌, subst}
use mathlib.Core.List.{List, [], ◌∷◌}
use mathlib.Core.Bool.{Bool, true, false, ◌&&◌, ◌||◌, not, false≢true}
use mathlib.Core.Logic.{◌⊎◌, inl, inr}
use Prim.Native.Nat.{ℕ, zero, suc, ◌+◌, ◌*◌, ◌-◌, ◌/◌, ◌%◌, ◌^◌, ◌≤◌, ◌<◌, zero-le}
use native.Mathlib.Omega.{arith}
use native.Mathlib.Numerals.{add-one}
use native.Mathlib.Nat.{mul_assoc, mul_comm, pow-suc, one-le-pow, pow-le-pow_right, mul-add-div_right, div-eq_of_lt, mul-add-mod_self_right, max-eq_left}
use lib.Bits.{bit_or}
use lib.Dec.{eqb, leb, ltb}
use denote.Ref.{Bor}
use lib.ListN.{length, drop, take, get_or, length-map, length-drop, drop_of_length-le, get_or-eq_default}
use lib.Seq.{drop-cons, get_or-take, get_or-drop, length-take-le}
use borrow.Author.Tests.{eq-eqb, ne_eqb, eqb-true, eqb-false, leb-true, ltb-true, ltb-false, not-true}
use Rattle.std.proofs.lemmas.List.{get_or-map, drop-take}
use Rattle.std.specs.List.{list_all}
use Rattle.lexing.specs.bytes.{slash, underscore, is_letter, is_digit, is_word, within, lower}
use Rattle.lexing.specs.reply.{Reply, ok, fail, stop, ret, ◌>>=◌, ◌>>◌, ◌or◌, no_nearer, keep}
use Rattle.lexing.specs.words.{Word, bytes_of, is_key_letter, is_key, is_keyword, is_lower, keyword, any_keyword}
use Rattle.lexing.specs.blanks.{Doc, whitespace1}
use Rattle.lexing.specs.word_sets.{next_word, set_step, keywords_set, same_bytes, contains, bit, flags, set_flags, field_set, struct_set, event_set, command_set, attribute_set}
use Rattle.lexing.specs.answers.{Rest, lost_reply, word_at, word_reply, doc_of, BlankTo, set_of, WordSetTo, Lost}
use Rattle.lexing.specs.inner.word_sets.{KeywordEnd, there, missing, set_gap, start_reply, with_flag, initial, LowerAt, IsEight, EightFlag, some, none}
use Rattle.lexing.specs.inner.words.{KeyAt}
use Rattle.lexing.specs.inner.eights.{pack, bytes_from, failing, is_capital}
use Rattle.lexing.specs.declared.word_sets.WordSet.{WordSet}
use Rattle.std.specs.Prelude.{Ok, Err, Option, Some, None}
use Rattle.lexing.specs.declared.answers.LostBy.TheVariants.{Fail}
use Rattle.lexing.specs.declared.blanks.Blank.{Blank}
use Rattle.lexing.specs.declared.word_sets.KeywordSet.{KeywordSet}
use Rattle.lexing.specs.declared.word_sets.KeywordSet.TheVariants.{Field, Struct, Event, Command, Attribute, Empty}
use Rattle.std.specs.Prelude.{map}
use Rattle.lexing.proofs.Losses.{by_lost}
use Rattle.lexing.proofs.Tests.{and_left, and_right, or_false, or_true, false_if}
use Rattle.lexing.proofs.Locality.{OnChain, chain_ret, chain_then}
use Rattle.lexing.proofs.TokenLocality.{whitespace1_chain, keyword_chain, keyword_consumes, any_keyword_chain, set_step_consumes}
use Rattle.lexing.proofs.Slicing.{Took, took, walks, rest_self, rest_from, reads_in, on, fall}
use Rattle.lexing.proofs.Repetition.{IterAt, iter_start, iter_step, iter_ends}
use Rattle.lexing.proofs.FirstWord.{starts_of, other_keyword, free_keywords, no_initial}
use Rattle.lexing.proofs.words.Laws.{Says, keyword_says, key_letter, key_eight, key_read}
use Rattle.lexing.proofs.blanks.Laws.{blanks_one, gap_none, gap_some}
use Rattle.lexing.proofs.Scans.{first_of, turns}
use Rattle.lexing.proofs.EveryByte.{every, every_at}
use Rattle.lexing.proofs.eights.Laws.{Bytes, pack_alike, all_failing}

-- the same bytes
pub same_eq : (u v : List ℕ) → same_bytes u v ≡ true → u ≡ v
unfolding same_bytes
same_eq [] [] e = refl
same_eq [] (y ∷ v) e = absurd (false≢true e)
same_eq (x ∷ u) [] e = absurd (false≢true e)
same_eq (x ∷ u) (y ∷ v) e = rw (eqb-true x y (and_left (eqb x y) (same_bytes u v) e), same_eq u v (and_right (eqb x y) (same_bytes u v) e))

same_self : (u : List ℕ) → same_bytes u u ≡ true
unfolding same_bytes
same_self [] = refl
same_self (x ∷ u) = rw (eq-eqb x x refl, same_self u)

eqb_turn : (x y : ℕ) → eqb x y ≡ eqb y x
eqb_turn x y = go (eqb x y) refl
  where
    go : (t : Bool) → eqb x y ≡ t → eqb x y ≡ eqb y x
    go true e = e ∙ sym (eq-eqb y x (sym (eqb-true x y e)))
    go false e = e ∙ sym (ne_eqb y x (λ z. eqb-false x y e (sym z)))

-- a word that is the keyword, whatever its case, is written like it where it is in lower case
pub like_keyword : (w k : List ℕ) → is_keyword w k ≡ true → same_bytes w k ≡ is_lower w
unfolding is_keyword same_bytes
like_keyword [] [] e = refl
like_keyword [] (y ∷ k) e = absurd (false≢true e)
like_keyword (x ∷ w) [] e = absurd (false≢true e)
like_keyword (x ∷ w) (y ∷ k) e =
    let h = eqb-true (lower x) y (and_left (eqb (lower x) y) (is_keyword w k) e) in
    let i = like_keyword w k (and_right (eqb (lower x) y) (is_keyword w k) e) in
    rw (← h, i, eqb_turn x (lower x))

-- the table: at most four keywords in a set, each in lower case and unlike the others
unfoldable among : List ℕ → List (List ℕ) → Bool
among w [] = false
among w (k ∷ ks) = same_bytes w k || among w ks

unfoldable apart : List (List ℕ) → Bool
apart [] = true
apart (k ∷ ks) = (is_lower k && not (among k ks)) && apart ks

apart_of : (k : List ℕ) (ks : List (List ℕ)) → apart (k ∷ ks) ≡ true → (is_lower k ≡ true) × ((among k ks ≡ false) × (apart ks ≡ true))
unfolding apart
apart_of k ks e =
    let h = and_left (is_lower k && not (among k ks)) (apart ks) e in
    (and_left (is_lower k) (not (among k ks)) h, (not-true (among k ks) (and_right (is_lower k) (not (among k ks)) h), and_right (is_lower k && not (among k ks)) (apart ks) e))

set_apart : (n : KeywordSet) → apart (set_of n) ≡ true
unfolding apart among field_set struct_set event_set command_set attribute_set is_keyword same_bytes lower within
set_apart Field = refl
set_apart Struct = refl
set_apart Event = refl
set_apart Command = refl
set_apart Attribute = refl
set_apart Empty = refl

pub set_most : (n : KeywordSet) → length (set_of n) ≤ 4
unfolding field_set struct_set event_set command_set attribute_set
set_most Field = omega arith
set_most Struct = omega arith
set_most Event = omega arith
set_most Command = omega arith
set_most Attribute = omega arith
set_most Empty = omega arith

unfoldable all_keys : List (List ℕ) → Bool
all_keys [] = true
all_keys (k ∷ ks) = is_key k && all_keys ks

set_all_keys : (n : KeywordSet) → all_keys (set_of n) ≡ true
unfolding all_keys field_set struct_set event_set command_set attribute_set
set_all_keys Field = refl
set_all_keys Struct = refl
set_all_keys Event = refl
set_all_keys Command = refl
set_all_keys Attribute = refl
set_all_keys Empty = refl

key_of : (ks : List (List ℕ)) (k : ℕ) → k < length ks → all_keys ks ≡ true → is_key (get_or ks k []) ≡ true
unfolding all_keys
key_of [] k l e = absurd (omega arith)
key_of (x ∷ ks) zero l e = and_left (is_key x) (all_keys ks) e
key_of (x ∷ ks) (suc k) l e = key_of ks k (omega arith) (and_right (is_key x) (all_keys ks) e)

set_key : (n : KeywordSet) (k : ℕ) → k < length (set_of n) → is_key (get_or (set_of n) k []) ≡ true
set_key n k l = key_of (set_of n) k l (set_all_keys n)

-- the flags of one more word that is like no keyword
flags_kept : (ks : List (List ℕ)) (w : Word) (ws : List Word) → among (bytes_of w) ks ≡ false → flags ks (w ∷ ws) ≡ flags ks ws
unfolding flags contains among
flags_kept [] w ws e = refl
flags_kept (k ∷ ks) w ws e = let o = or_false (same_bytes (bytes_of w) k) (among (bytes_of w) ks) e in rw (o.0, flags_kept ks w ws o.1)

not_among : (ks : List (List ℕ)) (w : List ℕ) → apart ks ≡ true → is_lower w ≡ false → among w ks ≡ false
unfolding among
not_among [] w e h = refl
not_among (k ∷ ks) w e h =
    let a = apart_of k ks e in
    let o : same_bytes w k ≡ false = false_if (same_bytes w k) (λ q. false≢true (sym h ∙ (ap (λ v. is_lower v) (same_eq w k q) ∙ a.0))) in
    rw (o, not_among ks w a.1.1 h)

among_at : (ks : List (List ℕ)) (k : ℕ) (w : List ℕ) → k < length ks → among w ks ≡ false → same_bytes w (get_or ks k []) ≡ false
unfolding among
among_at [] k w l e = absurd (omega arith)
among_at (x ∷ ks) zero w l e = (or_false (same_bytes w x) (among w ks) e).0
among_at (x ∷ ks) (suc k) w l e = among_at ks k w (omega arith) (or_false (same_bytes w x) (among w ks) e).1

-- a later keyword is unlike an earlier one
unlike_first : (x : List ℕ) (ks : List (List ℕ)) (k : ℕ) → apart (x ∷ ks) ≡ true → k < length ks → same_bytes (get_or ks k []) x ≡ false
unlike_first x ks k a l = false_if _ (λ q. false≢true (sym (among_at ks k x l (apart_of x ks a).1.0) ∙ (ap (same_bytes x) (same_eq (get_or ks k []) x q) ∙ same_self x)))

unlike_before : (ks : List (List ℕ)) (k i : ℕ) → apart ks ≡ true → i < k → k < length ks → same_bytes (get_or ks k []) (get_or ks i []) ≡ false
unlike_before [] k i a l h = absurd (omega arith)
unlike_before (x ∷ ks) zero i a l h = absurd (omega arith)
unlike_before (x ∷ ks) (suc k) zero a l h = unlike_first x ks k a (omega arith)
unlike_before (x ∷ ks) (suc k) (suc i) a l h = unlike_before ks k i (apart_of x ks a).1.1 (omega arith) (omega arith)

-- bits
pow_even : (k j : ℕ) → 2 ^ (k + suc j) ≡ 2 ^ k * 2 * 2 ^ j
pow_even zero j = let z : 0 + suc j ≡ suc j = omega arith in rw (z, pow-suc 2 j) (omega arith)
pow_even (suc k) j =
    let z : suc k + suc j ≡ suc (k + suc j) = omega arith in
    rw (z, pow-suc 2 (k + suc j), pow_even k j, pow-suc 2 k) (mul_assoc (2 ^ k * 2) (2 ^ j) 2 ∙ (ap (λ (n : ℕ). 2 ^ k * 2 * n) (mul_comm (2 ^ j) 2) ∙ sym (mul_assoc (2 ^ k * 2) 2 (2 ^ j))))

pow_up : (j : ℕ) → 0 < 2 ^ j
pow_up j = one-le-pow j 2 (omega arith)

pub flags_less : (ks : List (List ℕ)) (ws : List Word) → flags ks ws < 2 ^ length ks
unfolding flags bit
flags_less [] ws = omega arith
flags_less (k ∷ ks) ws = go (contains ws k) (flags_less ks ws)
  where
    go : (t : Bool) → flags ks ws < 2 ^ length ks → bit t * 2 ^ length ks + flags ks ws < 2 ^ suc (length ks)
    go true h = rw (pow-suc 2 (length ks)) (omega arith)
    go false h = rw (pow-suc 2 (length ks)) (omega arith)

set_small : (n : KeywordSet) (ws : List Word) → flags (set_of n) ws < 16
set_small n ws = let p : 2 ^ length (set_of n) ≤ 2 ^ 4 = pow-le-pow_right (omega arith) (set_most n) in omega (arith, p, flags_less (set_of n) ws)

flag_none : (p f : ℕ) → with_flag false p f ≡ f
unfolding with_flag
flag_none p f = refl

-- of the first word
flag_first : (p : ℕ) → 0 < p → p ≡ with_flag true p 0
unfolding with_flag
flag_first p h = let z : 0 / p % 2 ≡ 0 = rw (div-eq_of_lt h) in rw (z, with_flag) (omega arith)

-- the highest bit
high_flag : (t : Bool) (p f : ℕ) → f < p → with_flag true p (bit t * p + f) ≡ bit true * p + f
unfolding with_flag bit
high_flag t p f h = go t refl
  where
    at : (bit t * p + f) / p ≡ bit t + 0
    at = mul-add-div_right (omega arith) (bit t) f ∙ ap (λ (n : ℕ). bit t + n) (div-eq_of_lt h)

    go : (t' : Bool) → t ≡ t' → with_flag true p (bit t * p + f) ≡ 1 * p + f
    go true e = let q : (bit t * p + f) / p % 2 ≡ 1 = rw (at, e) in rw (q, with_flag) (rw e)
    go false e = let q : (bit t * p + f) / p % 2 ≡ 0 = rw (at, e) in rw (q, with_flag) (rw e (omega arith))

-- a lower one
low_flag : (y p f : ℕ) → 0 < p → with_flag true p (y * 2 * p + f) ≡ y * 2 * p + with_flag true p f
unfolding with_flag
low_flag y p f h = go (eqb (f / p % 2) 1) refl
  where
    at : (y * 2 * p + f) / p % 2 ≡ f / p % 2
    at = ap (λ (n : ℕ). n % 2) (mul-add-div_right h (y * 2) f) ∙ mul-add-mod_self_right y 2 (f / p)

    go : (t : Bool) → eqb (f / p % 2) 1 ≡ t → with_flag true p (y * 2 * p + f) ≡ y * 2 * p + with_flag true p f
    go true e = rw (at, e, with_flag)
    go false e = rw (at, e, with_flag) (omega arith)

-- the flags of one more word that is written like the k-th keyword, which j others follow
flag_more : (ks : List (List ℕ)) (k j : ℕ) (w : Word) (ws : List Word) → apart ks ≡ true → bytes_of w ≡ get_or ks k [] → suc (k + j) ≡ length ks → with_flag true (2 ^ j) (flags ks ws) ≡ flags ks (w ∷ ws)
unfolding flags contains
flag_more [] k j w ws a e h = absurd (omega arith)
flag_more (x ∷ ks) zero j w ws a e h =
    let z : j ≡ length ks = omega arith in
    let s : same_bytes (bytes_of w) x ≡ true = rw e (same_self x) in
    rw (z, s, flags_kept ks w ws (rw e (apart_of x ks a).1.0)) (high_flag (contains ws x) (2 ^ length ks) (flags ks ws) (flags_less ks ws))
flag_more (x ∷ ks) (suc k) j w ws a e h =
    let z : length ks ≡ k + suc j = omega arith in
    let s : same_bytes (bytes_of w) x ≡ false = rw e (unlike_first x ks k a (omega arith)) in
    let p : bit (contains ws x) * 2 ^ length ks ≡ bit (contains ws x) * 2 ^ k * 2 * 2 ^ j =
    rw (z, pow_even k j) (sym (mul_assoc (bit (contains ws x)) (2 ^ k * 2) (2 ^ j)) ∙ ap (λ (n : ℕ). n * 2 ^ j) (sym (mul_assoc (bit (contains ws x)) (2 ^ k) 2))) in
    rw (s, p) (low_flag (bit (contains ws x) * 2 ^ k) (2 ^ j) (flags ks ws) (pow_up j) ∙ ap (λ (n : ℕ). bit (contains ws x) * 2 ^ k * 2 * 2 ^ j + n) (flag_more ks k j w ws (apart_of x ks a).1.1 e (omega arith)))

-- the flags of one more word that is the k-th keyword, whatever its case
word_flag : (ks : List (List ℕ)) (k j : ℕ) (w : Word) (ws : List Word) → apart ks ≡ true → is_keyword (bytes_of w) (get_or ks k []) ≡ true → suc (k + j) ≡ length ks
    → with_flag (is_lower (bytes_of w)) (2 ^ j) (flags ks ws) ≡ flags ks (w ∷ ws)
word_flag ks k j w ws a e h = go (is_lower (bytes_of w)) refl
  where
    go : (t : Bool) → is_lower (bytes_of w) ≡ t → with_flag (is_lower (bytes_of w)) (2 ^ j) (flags ks ws) ≡ flags ks (w ∷ ws)
    go true q = rw q (flag_more ks k j w ws a (same_eq (bytes_of w) (get_or ks k []) (like_keyword (bytes_of w) (get_or ks k []) e ∙ q)) h)
    go false q = rw q (flag_none (2 ^ j) (flags ks ws) ∙ sym (flags_kept ks w ws (not_among ks (bytes_of w) a q)))

-- a flag in code
pub flag_off : (t : Bool) (p f : ℕ) → t ≡ false → f ≡ with_flag t p f
flag_off t p f e = rw e (sym (flag_none p f))

-- a flag as a number that is there or is added
module _ (t : Bool) (o p f : ℕ) (e : t ≡ true) (h : p ≡ 2 ^ o) where
  pub flag_there : f / p % 2 ≡ 1 → f ≡ with_flag t (2 ^ o) f
  unfolding with_flag
  flag_there q = rw (e, ← h) (rw (eq-eqb (f / p % 2) 1 q, with_flag))

  pub flag_new : (f / p % 2 ≡ 1 → ⊥) → f + p ≡ with_flag t (2 ^ o) f
  unfolding with_flag
  flag_new q = rw (e, ← h) (rw (ne_eqb (f / p % 2) 1 q, with_flag))

  pub flag_bit : o < 4 → (0 < p) × (p ≤ 8)
  flag_bit l = let d : o ≤ 3 = omega arith in let m : 2 ^ o ≤ 2 ^ 3 = pow-le-pow_right (omega arith) d in (rw h (pow_up o), rw h m)

flag_bits : every 4 (λ o. every 16 (λ f. eqb (bit_or f (1 * 2 ^ o % 256)) (with_flag true (2 ^ o) f))) ≡ true
unfolding every with_flag
flag_bits = refl

pub flag_on : (t : Bool) (o f : ℕ) → t ≡ true → f < 16 → o < 4 → bit_or f (1 * 2 ^ o % 256) ≡ with_flag t (2 ^ o) f
flag_on t o f e h l = rw e (eqb-true _ _ (every_at 16 (λ f. eqb (bit_or f (1 * 2 ^ o % 256)) (with_flag true (2 ^ o) f)) (every_at 4 (λ o. every 16 (λ f. eqb (bit_or f (1 * 2 ^ o % 256)) (with_flag true (2 ^ o) f))) flag_bits o l) f h))

-- the test for lower case
pub lower_start : (u : List ℕ) (n : ℕ) → LowerAt u n 0
lower_start u n = record { inside = zero-le; left = refl }

lower_cons : (x : ℕ) (u : List ℕ) → is_lower (x ∷ u) ≡ (eqb (lower x) x && is_lower u)
unfolding is_keyword
lower_cons x u = refl

lower_nil : is_lower [] ≡ true
unfolding is_keyword
lower_nil = refl

pub lower_all : (u : List ℕ) → list_all (λ x. eqb (lower x) x) u ≡ is_lower u
lower_all [] = sym lower_nil
lower_all (x ∷ u) = ap (λ t. eqb (lower x) x && t) (lower_all u) ∙ sym (lower_cons x u)

pub lower_rest : (u : List ℕ) (n i : ℕ) → LowerAt u n i → is_lower (take (n - i) (drop i u)) ≡ is_lower (take n u)
lower_rest u n i h = let z : i + (n - i) ≡ n = omega (arith, h.inside) in ap (λ v. is_lower v) (sym (drop-take i (n - i) u) ∙ ap (λ (m : ℕ). drop i (take m u)) z) ∙ h.left

module _ (u : List ℕ) (n i : ℕ) (h : LowerAt u n i) (fits : n ≤ length u) where
  module _ (lt : i < n) where
    lower_here : is_lower (take n u) ≡ (eqb (lower (get_or u i 0)) (get_or u i 0) && is_lower (drop (suc i) (take n u)))
    lower_here =
        let l : i < length (take n u) = rw (length-take-le n u fits) lt in
        sym h.left ∙ rw (drop-cons (take n u) i 0 l, get_or-take n u i 0 lt) (lower_cons (get_or u i 0) (drop (suc i) (take n u)))

    pub lower_more : lower (get_or u i 0) ≡ get_or u i 0 → LowerAt u n (i + 1)
    lower_more e = record { inside = omega arith; left = rw add-one (sym (lower_here ∙ rw (eq-eqb _ _ e))) }

  pub lower_end : n ≤ i → true ≡ is_lower (take n u)
  lower_end le = let l : length (take n u) ≤ i = rw (length-take-le n u fits) le in sym (sym h.left ∙ rw (drop_of_length-le (take n u) l) lower_nil)

-- bytes that are no capital letters
plain_lower : (x : ℕ) → is_capital x ≡ false → lower x ≡ x
unfolding lower
plain_lower x e = rw (e, lower) refl

lower_on : (u : List ℕ) (n k i : ℕ) → n ≤ length u → LowerAt u n i → i + k ≤ n → ((j : ℕ) → j < k → lower (get_or u (i + j) 0) ≡ get_or u (i + j) 0) → LowerAt u n (i + k)
lower_on u n k i f h l p = turns (LowerAt u n) i k h (λ j q g. lower_more u n (i + j) g f (omega arith) (p j q))

pub lower_eight : (u : List ℕ) (n i w m : ℕ) → n ≤ length u → LowerAt u n i → 8 ≤ n - i → Bytes (λ j. get_or u j 0) → w ≡ pack 8 (bytes_from u i) → m ≡ failing is_capital w → m ≡ 0x8080808080808080 → LowerAt u n (i + 8)
lower_eight u n i w m f h l b e d z = lower_on u n 8 i f h (omega arith) (λ j q. plain_lower _ (all_failing is_capital u i w m b e d j z q))

-- the start of a word
gap_ok : (b : ℕ) (u : List ℕ) (d : Doc) (c : ℕ) (r : List ℕ) → ok d c r ≡ whitespace1 b u → ok tt c r ≡ set_gap false b u
unfolding set_gap ◌>>◌ ◌>>=◌ ret
gap_ok b u d c r e = rw (sym e, ◌>>=◌)

gap_fail : (b : ℕ) (u : List ℕ) → fail b ≡ whitespace1 b u → fail b ≡ set_gap false b u
unfolding set_gap ◌>>◌ ◌>>=◌
gap_fail b u e = rw (sym e, ◌>>=◌)

pub start_first : (b : ℕ) (u : List ℕ) (t : Bool) → t ≡ true → ok tt b (drop (b - b) u) ≡ set_gap t b u
unfolding set_gap ret
start_first b u t e = let z : b - b ≡ 0 = omega arith in rw (e, z)

module _ (b : ℕ) (u : List ℕ) (t : Bool) (e : t ≡ false) (r : Blank) (h : BlankTo r b u) where
  pub start_none : r.next ≡ b → fail b ≡ set_gap t b u
  start_none q = rw e (gap_fail b u (gap_none b u r h q))

  pub start_next : (r.next ≡ b → ⊥) → ok tt r.next (drop (r.next - b) u) ≡ set_gap t b u
  start_next q = rw e (gap_ok b u (doc_of r.doc) r.next (drop (r.next - b) u) (gap_some b u r h q))

set_gap_chain : (t : Bool) → OnChain (set_gap t)
unfolding set_gap
set_gap_chain true = chain_ret tt
set_gap_chain false = chain_then whitespace1_chain (chain_ret tt)

-- the walk over the keywords of a set: those passed are not there, and so what is left decides
pub record KeysAt (ks : List (List ℕ)) (b : ℕ) (u : List ℕ) (k : ℕ) : Type 0 where
  pub inside : k ≤ length ks
  pub left : any_keyword (drop k ks) b u ≡ any_keyword ks b u

abbrev Calm : ℕ → Reply Word → Type 0
Calm b (ok w c r) = Unit {0}
Calm b (fail p) = p ≡ b
Calm b (stop n p) = ⊥

calm_further : (b : ℕ) (x : Reply Word) → Calm b x → no_nearer b x ≡ x
unfolding no_nearer
calm_further b (ok w c r) h = refl
calm_further b (fail p) h = let l : b ≤ b = omega arith in rw (h, max-eq_left l)
calm_further b (stop n p) h = absurd h

or_fails : (k : List ℕ) (ks : List (List ℕ)) (b : ℕ) (u : List ℕ) → keyword k b u ≡ fail b → any_keyword (k ∷ ks) b u ≡ no_nearer b (any_keyword ks b u)
unfolding any_keyword ◌or◌
or_fails k ks b u e = rw (e, ◌or◌)

or_takes : (k : List ℕ) (ks : List (List ℕ)) (b : ℕ) (u : List ℕ) (w : Word) (c : ℕ) (r : List ℕ) → keyword k b u ≡ ok w c r → any_keyword (k ∷ ks) b u ≡ ok w c r
unfolding any_keyword ◌or◌
or_takes k ks b u w c r e = rw (e, ◌or◌)

no_keyword : (b : ℕ) (u : List ℕ) → any_keyword [] b u ≡ fail b
unfolding any_keyword
no_keyword b u = refl

any_calm : (ks : List (List ℕ)) (b : ℕ) (u : List ℕ) → Calm b (any_keyword ks b u)
any_calm [] b u = rw (no_keyword b u) refl
any_calm (k ∷ ks) b u = go (keyword k b u) refl (keyword_says k b u) (any_calm ks b u)
  where
    go : (x : Reply Word) → keyword k b u ≡ x → Says k b x → Calm b (any_keyword ks b u) → Calm b (any_keyword (k ∷ ks) b u)
    go (ok w c r) e h ih = rw (or_takes k ks b u w c r e) tt
    go (fail p) e h ih = rw (or_fails k ks b u (e ∙ ap fail h), calm_further b (any_keyword ks b u) ih) ih
    go (stop n p) e h ih = absurd h

pub lost_here : (k : List ℕ) (b : ℕ) (u : List ℕ) (l : Lost) → lost_reply l ≡ keyword k b u → fail b ≡ keyword k b u
lost_here k b u = by_lost (λ l. lost_reply l ≡ keyword k b u → fail b ≡ keyword k b u) (λ p e. ap fail (sym (rw (← e) at (keyword_says k b u))) ∙ e) (λ n p e. absurd (rw (← e) at (keyword_says k b u)))

-- the offset after a keyword, from the step over it
module _ {k : List ℕ} {b : ℕ} {u : List ℕ} where
  pub end_missing : (l : Lost) → word_reply (Err l) b u ≡ keyword k b u → KeywordEnd k b u b
  end_missing l h = missing refl (lost_here k b u l h)

  pub end_there : {c : ℕ} → word_reply (Ok c) b u ≡ keyword k b u → KeywordEnd k b u c
  end_there {c} h = there (omega (arith, rw (← h) at ((keyword_consumes k).consumes b u), length-drop (c - b) u)) h

-- and what it tells
module _ {k : List ℕ} {b : ℕ} {u : List ℕ} {r : ℕ} where
  is_missing : KeywordEnd k b u r → r ≤ b → keyword k b u ≡ fail b
  is_missing (there l f) h = absurd (omega arith)
  is_missing (missing e f) h = sym f

  is_there : KeywordEnd k b u r → b < r → ok (word_at b u r) r (drop (r - b) u) ≡ keyword k b u
  is_there (there l f) h = f
  is_there (missing e f) h = absurd (omega arith)

-- the keyword that is there
pub record Found (ks : List (List ℕ)) (b : ℕ) (u : List ℕ) (k c : ℕ) : Type 0 where
  pub reads : any_keyword ks b u ≡ ok (word_at b u c) c (drop (c - b) u)
  pub is : is_keyword (take (c - b) u) (get_or ks k []) ≡ true
  pub inside : c ≤ b + length u

keys_start : (ks : List (List ℕ)) (b : ℕ) (u : List ℕ) → KeysAt ks b u 0
keys_start ks b u = record { inside = zero-le; left = refl }

module _ (ks : List (List ℕ)) (b : ℕ) (u : List ℕ) (k : ℕ) (i : KeysAt ks b u k) where
  keys_end : length ks ≤ k → any_keyword ks b u ≡ fail b
  keys_end le = sym i.left ∙ rw (drop_of_length-le ks le) (no_keyword b u)

  module _ (lt : k < length ks) {e : ℕ} (h : KeywordEnd (get_or ks k []) b u e) where
    here : any_keyword (get_or ks k [] ∷ drop (suc k) ks) b u ≡ any_keyword ks b u
    here = rw (← drop-cons ks k [] lt) i.left

    keys_more : e ≤ b → KeysAt ks b u (k + 1)
    keys_more l = record { inside = omega arith; left = rw add-one (sym (or_fails (get_or ks k []) (drop (suc k) ks) b u (is_missing h l) ∙ calm_further b (any_keyword (drop (suc k) ks) b u) (any_calm (drop (suc k) ks) b u)) ∙ here) }

    keys_found : b < e → Found ks b u k e
    unfolding bytes_of
    keys_found l =
        let f = is_there h l in
        record {
          reads = sym here ∙ or_takes (get_or ks k []) (drop (suc k) ks) b u (word_at b u e) e (drop (e - b) u) (sym f);
          is = rw (← f) at (keyword_says (get_or ks k []) b u);
          inside = (reads_in (walks (keyword_chain (get_or ks k []))) b e u (word_at b u e) f).1;
        }

-- those before one that is there are passed
keys_before : (ks : List (List ℕ)) (b : ℕ) (u : List ℕ) (k c : ℕ) → apart ks ≡ true → k < length ks → ok (word_at b u c) c (drop (c - b) u) ≡ keyword (get_or ks k []) b u → KeysAt ks b u k
keys_before ks b u k c a lt e =
    let z : 0 + k ≡ k = omega arith in
    let s = starts_of (get_or ks k []) b u (word_at b u c) c (drop (c - b) u) (sym e) in
    rw z at (turns (KeysAt ks b u) 0 k (keys_start ks b u) λ j l i.
    keys_more ks b u (0 + j) i (omega arith) (missing refl (sym (other_keyword s b (get_or ks (0 + j) []) (unlike_before ks k (0 + j) a (omega arith) lt)))) (omega arith))

-- one word more, by its start and its keyword
unfoldable pub none_yet : List Word → Bool
none_yet [] = true
none_yet (w ∷ ws) = false

word_is : (ks : List (List ℕ)) (ws : List Word) (c : ℕ) (v : List ℕ) → next_word ks ws c v ≡ (set_gap (none_yet ws) >> any_keyword ks) c v
unfolding next_word none_yet set_gap ◌>>◌ ◌>>=◌ ret
word_is ks [] c v = refl
word_is ks (w ∷ ws) c v = go (whitespace1 c v) refl
  where
    go : (x : Reply Doc) → whitespace1 c v ≡ x → (whitespace1 >> any_keyword ks) c v ≡ (set_gap false >> any_keyword ks) c v
    go (ok d n r) e = rw (e, ◌>>=◌)
    go (fail p) e = rw (e, ◌>>=◌)
    go (stop n p) e = rw (e, ◌>>=◌)

module _ (ks : List (List ℕ)) (ws : List Word) (t : Bool) (e : t ≡ none_yet ws) (c : ℕ) (v : List ℕ) where
  step_ok : (w : Word) (n : ℕ) (r : List ℕ) → ok w n r ≡ (set_gap t >> any_keyword ks) c v → set_step ks ws c v ≡ ok (w ∷ ws) n r
  unfolding set_step ◌>>=◌ ret
  step_ok w n r h = let z : next_word ks ws c v ≡ ok w n r = word_is ks ws c v ∙ (rw (← e) (sym h)) in rw (z, ◌>>=◌)

  step_fail : (p : ℕ) → fail p ≡ (set_gap t >> any_keyword ks) c v → set_step ks ws c v ≡ fail p
  unfolding set_step ◌>>=◌ ret
  step_fail p h = let z : next_word ks ws c v ≡ fail p = word_is ks ws c v ∙ (rw (← e) (sym h)) in rw (z, ◌>>=◌)

-- the invariant of the run over the words: the words so far, their flags, and whether there is none yet
pub record SetAt (n : KeywordSet) (b : ℕ) (u : List ℕ) (f c : ℕ) (t : Bool) : Type 0 where
  pub words : List Word
  pub at : IterAt (set_step (set_of n)) keep [] b u c words
  pub flags_are : f ≡ flags (set_of n) words
  pub first_is : t ≡ none_yet words
  pub small : f < 16

no_flags : (ks : List (List ℕ)) → 0 ≡ flags ks []
unfolding flags contains bit
no_flags [] = refl
no_flags (k ∷ ks) = omega (arith, no_flags ks)

pub set_start : (n : KeywordSet) (b : ℕ) (u : List ℕ) → SetAt n b u 0 b true
unfolding none_yet
set_start n b u = record { words = []; at = iter_start (set_step (set_of n)) keep [] b u; flags_are = no_flags (set_of n); first_is = refl; small = omega arith }

flags_reply : (n : KeywordSet) (b : ℕ) (u : List ℕ) (ws : List Word) (c : ℕ) (r : List ℕ) → ok ws c r ≡ keywords_set (set_of n) b u → ok (flags (set_of n) ws) c r ≡ set_flags (set_of n) b u
unfolding set_flags ◌>>=◌ ret
flags_reply n b u ws c r e = rw (sym e, ◌>>=◌)

module _ {n : KeywordSet} {b : ℕ} {u : List ℕ} {f c : ℕ} {t : Bool} (i : SetAt n b u f c t) where
  ended : (p : ℕ) → fail p ≡ (set_gap t >> any_keyword (set_of n)) c (drop (c - b) u) → WordSetTo (record { flags = f; next = c }) n b u
  unfolding keywords_set keep
  ended p h =
      let e = iter_ends (set_step_consumes (set_of n)) i.at p (step_fail (set_of n) i.words t i.first_is c (drop (c - b) u) p h) in
      record { reads = rw i.flags_are (flags_reply n b u i.words c (drop (c - b) u) e); up = i.at.from; inside = i.at.inside; small = i.small }

  pub set_no_start : {q : List ℕ} (s : Option ℕ) → Rest b u c q → start_reply s c q ≡ set_gap t c q → s ≡ None → WordSetTo (record { flags = f; next = c }) n b u
  set_no_start {q} s d h e = ended c (fall (set_gap t) (any_keyword (set_of n)) (Fail c) d (subst (λ (x : Option ℕ). start_reply x c q ≡ set_gap t c q) e h))

pub start_took : {b c : ℕ} {u q : List ℕ} (t : Bool) (s : Option ℕ) (m : ℕ) → Rest b u c q → start_reply s c q ≡ set_gap t c q → s ≡ Some m → Took (set_gap t) b u c tt m
start_took {b} {c} {u} {q} t s m d h e = took (walks (set_gap_chain t)) d (subst (λ (x : Option ℕ). start_reply x c q ≡ set_gap t c q) e h)

first_took : (b : ℕ) (u : List ℕ) → Took (set_gap true) b u b tt b
first_took b u = start_took true (Some b) b (rest_self b u) (start_first b u true refl) refl

-- the invariant of the walk inside the run: the next word may start at m
pub record WalkAt (n : KeywordSet) (b : ℕ) (u : List ℕ) (f c : ℕ) (t : Bool) (m : ℕ) (r : List ℕ) (k : ℕ) : Type 0 where
  pub set : SetAt n b u f c t
  pub start : Took (set_gap t) b u c tt m
  pub rest : Rest b u m r
  pub keys : KeysAt (set_of n) m r k

pub walk_start : {n : KeywordSet} {b : ℕ} {u : List ℕ} {f c : ℕ} {t : Bool} {m : ℕ} {r : List ℕ} → SetAt n b u f c t → Took (set_gap t) b u c tt m → Rest b u m r → WalkAt n b u f c t m r 0
walk_start {n} {b} {u} {f} {c} {t} {m} {r} i s d = record { set = i; start = s; rest = d; keys = keys_start (set_of n) m r }

module _ {n : KeywordSet} {b : ℕ} {u : List ℕ} {f c : ℕ} {t : Bool} {m : ℕ} {r : List ℕ} {k : ℕ} (i : WalkAt n b u f c t m r k) {count : ℕ} (size : count ≡ length (set_of n)) where
  pub walk_end : count ≤ k → WordSetTo (record { flags = f; next = c }) n b u
  walk_end le = ended i.set m (on (any_keyword (set_of n)) i.start (sym (rw i.rest.same at (keys_end (set_of n) m r k i.keys (omega arith)))))

  module _ (lt : k < count) {e : ℕ} (h : KeywordEnd (get_or (set_of n) k []) m r e) where
    pub walk_more : e ≤ m → WalkAt n b u f c t m r (k + 1)
    walk_more g = record { set = i.set; start = i.start; rest = i.rest; keys = keys_more (set_of n) m r k i.keys (omega arith) h g }

    pub walk_found : m < e → Found (set_of n) m r k e
    walk_found g = keys_found (set_of n) m r k i.keys (omega arith) h g

    pub walk_again : m < e → (o f' : ℕ) (l : Bool) → o ≡ count - 1 - k → l ≡ is_lower (take (e - m) r) → f' ≡ with_flag l (2 ^ o) f → SetAt n b u f' e false × (c < e)
    unfolding none_yet bytes_of
    walk_again d o f' l eo el ef =
        let g = walk_found d in
        let w = word_at m r e in
        let y = took (walks (any_keyword_chain (set_of n))) i.rest (sym g.reads) in
        let s = step_ok (set_of n) i.set.words t i.set.first_is c (drop (c - b) u) w e (drop (e - b) u) (on (any_keyword (set_of n)) i.start (sym y.goes)) in
        let x = iter_step (set_step_consumes (set_of n)) i.set.at (record { goes = s; up = omega (arith, y.up, i.start.up); inside = y.inside }) in
        let v : f' ≡ flags (set_of n) (w ∷ i.set.words) = rw (ef, el, i.set.flags_are) (word_flag (set_of n) k o w i.set.words (set_apart n) g.is (omega arith)) in
        (record { words = w ∷ i.set.words; at = x.0; flags_are = v; first_is = refl; small = rw v (set_small n (w ∷ i.set.words)) }, x.1)

-- the keywords as the code has them
module _ (n : KeywordSet) (l : List (Bor (List ℕ))) (table : map (λ k. k.now) l ≡ set_of n) where
  pub table_size : length l ≡ length (set_of n)
  table_size = sym (length-map l (λ k. k.now)) ∙ ap length table

  module _ (k : ℕ) (d : Bor (List ℕ)) (lt : k < length l) where
    table_at : get_or (set_of n) k [] ≡ (get_or l k d).now
    table_at = rw (← table) (get_or-map (λ (r : Bor (List ℕ)). r.now) l k d [] lt)

    pub table_key : is_key (get_or l k d).now ≡ true
    table_key = ap (λ v. is_key v) (sym table_at) ∙ set_key n k (omega (arith, table_size))

    pub table_end : {b : ℕ} {u : List ℕ} {r : ℕ} → KeywordEnd (get_or l k d).now b u r → KeywordEnd (get_or (set_of n) k []) b u r
    table_end h = rw table_at h

-- no word of the set begins like the one that may start at m
pub set_no_initial : {n : KeywordSet} {b : ℕ} {u : List ℕ} {f c : ℕ} {t : Bool} {m : ℕ} {r : List ℕ} → SetAt n b u f c t → Took (set_gap t) b u c tt m → Rest b u m r → initial (lower (get_or r 0 0)) (set_of n) ≡ false → WordSetTo (record { flags = f; next = c }) n b u
set_no_initial {n} {m = m} {r = r} i s d e = ended i m (on (any_keyword (set_of n)) s (sym (rw d.same at (free_keywords m r (set_of n) (no_initial m r (set_of n) e)))))

pub set_none : (n : KeywordSet) (b : ℕ) (u : List ℕ) → initial (lower (get_or u 0 0)) (set_of n) ≡ false → WordSetTo (record { flags = 0; next = b }) n b u
set_none n b u e = set_no_initial (set_start n b u) (first_took b u) (rest_self b u) e

-- the bytes of a keyword
letter_small : (x : ℕ) → is_key_letter x ≡ true → x < 256
letter_small x e = go (or_true (leb 0x61 x && leb x 0x7a) (eqb x underscore) e)
  where
    go : ((leb 0x61 x && leb x 0x7a) ≡ true) ⊎ (eqb x underscore ≡ true) → x < 256
    go (inl h) = omega (arith, leb-true x 0x7a (and_right (leb 0x61 x) (leb x 0x7a) h))
    go (inr h) = omega (arith, eqb-true x underscore h)

key_small : (k : List ℕ) → is_key k ≡ true → Bytes (λ j. get_or k j 0)
key_small k e j = go (ltb j (length k)) refl
  where
    go : (t : Bool) → ltb j (length k) ≡ t → get_or k j 0 < 256
    go true l = letter_small (get_or k j 0) (key_letter k e j (ltb-true j (length k) l))
    go false l = rw (get_or-eq_default k 0 (ltb-false j (length k) l)) (omega arith)

-- a set of one word: a keyword of eight bytes that is at the front as it is, and a word after it that is none of the set
not_word : is_word 32 ≡ false
unfolding is_word is_letter is_digit within
not_word = refl

module _ (b : ℕ) (u : List ℕ) {w : ℕ} (long : 10 ≤ length u) (p : Bytes (λ j. get_or u j 0)) (e : w ≡ pack 8 (bytes_from u 0)) (space : get_or u 8 0 ≡ 32) where
  module _ (k : List ℕ) (q : IsEight w k) where
    eight_key : KeyAt k u 8
    eight_key = key_eight k u q.key (omega (arith, q.eight)) (omega (arith, q.eight)) p (key_small k q.key) (sym e ∙ q.same)

    eight_same : (j : ℕ) → j < 8 → get_or u (0 + j) 0 ≡ get_or k (0 + j) 0
    eight_same = pack_alike 8 (bytes_from u 0) (bytes_from k 0) (λ j. p (0 + j)) (λ j. key_small k q.key (0 + j)) (sym e ∙ q.same)

    eight_lower : true ≡ is_lower (take 8 u)
    eight_lower = lower_end u 8 8 (lower_on u 8 8 0 (omega arith) (lower_start u 8) (omega arith) (λ j l. eight_key.agree (0 + j) (omega arith) ∙ sym (eight_same j l))) (omega arith) (omega arith)

    eight_read : ok (word_at b u (b + 8)) (b + 8) (drop (b + 8 - b) u) ≡ keyword k b u
    eight_read = rw q.eight at (key_read k u q.key (rw q.eight eight_key) (rw q.eight (ap is_word space ∙ not_word)) b)

  eight_set : {f : ℕ} {n : KeywordSet} → EightFlag f n w → (f ≡ 0 → ⊥) → SetAt n b u f (b + 8) false
  eight_set {f} {n} (none h) x = absurd (x h)
  eight_set {f} {n} (some k j size q h) x =
      let key = get_or (set_of n) k [] in
      let r = eight_read key q in
      let z : b + 8 - b ≡ 8 = omega arith in
      let i : WalkAt n b u 0 b true b u k = record { set = set_start n b u; start = first_took b u; rest = rest_self b u; keys = keys_before (set_of n) b u k (b + 8) (set_apart n) (omega arith) r } in
      (walk_again i refl (omega arith) (there (omega arith) r) (omega arith) j f true (omega arith) (rw z (eight_lower key q)) (rw h (flag_first (2 ^ j) (pow_up j)))).0

  -- the word after it
  module _ {y : ℕ} (ey : y ≡ get_or u 9 0) (above : slash < y) where
    eight_gap : Took (set_gap false) b u (b + 8) tt (b + 8 + 1)
    eight_gap =
        let z : b + 8 - b ≡ 8 = omega arith in
        let r = rest_from b (b + 8) u (omega arith) (omega arith) in
        let v = drop (b + 8 - b) u in
        let o = blanks_one (b + 8) v 32 y (sym (first_of (b + 8 - b) u ∙ rw z space)) (ey ∙ sym (get_or-drop (b + 8 - b) u 1 0 ∙ rw z refl)) refl above in
        start_took false (Some (b + 8 + 1)) (b + 8 + 1) r (start_next (b + 8) v false refl (record { next = b + 8 + 1; doc = None }) o (λ t. omega arith)) refl

    pub eight_alone : {f : ℕ} {n : KeywordSet} → EightFlag f n w → (f ≡ 0 → ⊥) → initial (lower y) (set_of n) ≡ false → WordSetTo (record { flags = f; next = b + 8 }) n b u
    eight_alone {f} {n} g x t =
        let z : b + 8 + 1 - b ≡ 9 = omega arith in
        set_no_initial (eight_set g x) eight_gap (rest_from b (b + 8 + 1) u (omega arith) (omega arith)) (ap (λ (c : ℕ). initial (lower c) (set_of n)) (first_of (b + 8 + 1 - b) u ∙ (rw z (sym ey))) ∙ t)

-- the flags of a set, by its size
pub set_fits : {r : WordSet} {n : KeywordSet} {b : ℕ} {u : List ℕ} → WordSetTo r n b u → r.flags < 2 ^ length (set_of n)
unfolding set_flags ◌>>=◌ ret
set_fits {r} {n} {b} {u} h = go (keywords_set (set_of n) b u) refl
  where
    go : (x : Reply (List Word)) → keywords_set (set_of n) b u ≡ x → r.flags < 2 ^ length (set_of n)
    go (ok ws c v) e =
        let k : ok r.flags r.next (drop (r.next - b) u) ≡ ok (flags (set_of n) ws) c v = rw (e, set_flags, ◌>>=◌) at h.reads in
        let z : r.flags ≡ flags (set_of n) ws = cc in
        omega (arith, z, flags_less (set_of n) ws)
    go (fail p) e = let k : ok r.flags r.next (drop (r.next - b) u) ≡ fail p = rw (e, set_flags, ◌>>=◌) at h.reads in let w : ◌≡◌ {A = ℕ} 0 1 = cc in absurd (omega arith)
    go (stop i p) e = let k : ok r.flags r.next (drop (r.next - b) u) ≡ stop i p = rw (e, set_flags, ◌>>=◌) at h.reads in let w : ◌≡◌ {A = ℕ} 0 1 = cc in absurd (omega arith)
