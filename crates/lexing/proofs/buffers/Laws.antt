-- Words as bytes, and words written over a buffer, one after the other.
use mathlib.Core.Path.{◌≡◌, refl, sym, ap, ◌∙◌}
use mathlib.Core.List.{List, [], ◌∷◌, ◌++◌, append_assoc, append-nil}
use Prim.Native.Nat.{ℕ, zero, suc, ◌+◌, ◌-◌, ◌*◌, ◌/◌, ◌%◌, ◌≤◌, ◌<◌}
use native.Mathlib.Omega.{arith}
use native.Mathlib.Nat.{add_assoc, add-zero, div-div-eq-div-mul}
use Rattle.std.proofs.lemmas.List.{take_more}
use lib.ListN.{length, get_or, drop, take, length-drop, length-append, take-append-drop}
use lib.Seq.{take_at, length-take-le, drop-append-add, drop-drop}
use Rattle.std.specs.Int.{to_be_bytes, w64}
use borrow.Rule.Slice.PartMut.{put_mid}
use Rattle.lexing.specs.buffers.{put, each, big_endian, words_bytes}

pub each_append : {A B : Type 0} (f : A → List B) (k l : List A) → each f (k ++ l) ≡ each f k ++ each f l
unfolding each
each_append f [] l = refl
each_append f (a ∷ k) l = rw (each_append f k l, append_assoc)

pub each_one : {A B : Type 0} (f : A → List B) (a : A) → each f (a ∷ []) ≡ f a
unfolding each
each_one f a = append-nil (f a)

pub big_endian_length : (n w : ℕ) → length (big_endian n w) ≡ n
unfolding big_endian
big_endian_length zero w = refl
big_endian_length (suc n) w = omega (arith, length-append (big_endian n (w / 256)) (w % 256 ∷ []), big_endian_length n (w / 256))

-- words as bytes
pub words_bytes_append : (k l : List ℕ) → words_bytes (k ++ l) ≡ words_bytes k ++ words_bytes l
unfolding words_bytes
words_bytes_append k l = each_append (big_endian 8) k l

pub words_bytes_one : (w : ℕ) → words_bytes (w ∷ []) ≡ big_endian 8 w
unfolding words_bytes
words_bytes_one w = each_one (big_endian 8) w

pub words_bytes_length : (l : List ℕ) → length (words_bytes l) ≡ 8 * length l
unfolding words_bytes each
words_bytes_length [] = refl
words_bytes_length (w ∷ l) = omega (arith, length-append (big_endian 8 w) (each (big_endian 8) l), big_endian_length 8 w, words_bytes_length l)

big_endian_8 : (w : ℕ) → big_endian 8 w ≡ w / 72057594037927936 % 256 ∷ w / 281474976710656 % 256 ∷ w / 1099511627776 % 256 ∷ w / 4294967296 % 256 ∷ w / 16777216 % 256 ∷ w / 65536 % 256 ∷ w / 256 % 256 ∷ w % 256 ∷ []
unfolding big_endian
big_endian_8 w = simp div-div-eq-div-mul

-- a word's bytes copied to a part of a buffer
pub put_part : (at w : ℕ) (l xs : List ℕ) → xs ≡ to_be_bytes w64 w → put_mid at (at + 8 - at) l xs ≡ put at (big_endian 8 w) l
unfolding put
put_part at w l xs e = let z : at + 8 - at ≡ 8 = omega arith in rw (z, big_endian_8 w, e) (rw (drop-drop 8 at l) refl)

pub put_length : (at : ℕ) (xs l : List ℕ) → at + length xs ≤ length l → length (put at xs l) ≡ length l
unfolding put
put_length at xs l h =
    let t : length (take at l) ≡ at = length-take-le at l (omega arith) in
    omega (arith, length-append (take at l) (xs ++ drop (at + length xs) l), length-append xs (drop (at + length xs) l), length-drop (at + length xs) l)

pub put_nothing : (at : ℕ) (l : List ℕ) → put at [] l ≡ l
unfolding put
put_nothing at l = rw add-zero (take-append-drop at l)

-- two writes, one after the other, are one
pub put_put : (at : ℕ) (xs ys l : List ℕ) → at + length xs + length ys ≤ length l → put (at + length xs) ys (put at xs l) ≡ put at (xs ++ ys) l
unfolding put
put_put at xs ys l h =
    let p : List ℕ = take at l ++ xs in
    let r : List ℕ = drop (at + length xs) l in
    let t : length (take at l) ≡ at = length-take-le at l (omega arith) in
    let lp : length p ≡ at + length xs = omega (arith, length-append (take at l) xs) in
    let e : take at l ++ (xs ++ r) ≡ p ++ r = sym (append_assoc (take at l) xs r) in
    let d : drop (at + length xs + length ys) (p ++ r) ≡ drop (at + (length xs + length ys)) l =
    ap (λ (n : ℕ). drop (n + length ys) (p ++ r)) (sym lp) ∙ (drop-append-add p r (length ys) ∙ (drop-drop (length ys) (at + length xs) l ∙ ap (λ (n : ℕ). drop n l) (add_assoc at (length xs) (length ys)))) in
    rw (e, take_at p r (at + length xs) lp, d, length-append xs ys, append_assoc xs ys, append_assoc (take at l) xs)

-- the same where the second place is a number of its own
pub put_on : (at to : ℕ) (xs ys l₀ l l' : List ℕ) → to ≡ at + length xs → to + length ys ≤ length l₀ → l ≡ put at xs l₀ → l' ≡ put to ys l → l' ≡ put at (xs ++ ys) l₀
put_on at to xs ys l₀ l l' z h e e' = e' ∙ rw (e, z) (put_put at xs ys l₀ (omega arith))

-- a word, and words after words
pub put_one : (at w : ℕ) (l l' : List ℕ) → l' ≡ put at (big_endian 8 w) l → l' ≡ put at (words_bytes (w ∷ [])) l
put_one at w l l' e = rw words_bytes_one e

pub put_further : (at to : ℕ) (ws vs l₀ l l' : List ℕ) → to ≡ at + 8 * length ws → to + 8 * length vs ≤ length l₀ → l ≡ put at (words_bytes ws) l₀ → l' ≡ put to (words_bytes vs) l → l' ≡ put at (words_bytes (ws ++ vs)) l₀
put_further at to ws vs l₀ l l' z h e e' =
    rw (words_bytes_append ws vs) (put_on at to (words_bytes ws) (words_bytes vs) l₀ l l' (omega (arith, words_bytes_length ws)) (omega (arith, words_bytes_length vs)) e e')

-- one word more
pub put_more : (at k : ℕ) (words l₀ l l' : List ℕ) → k < length words → at + 8 * (k + 1) ≤ length l₀ → l ≡ put at (words_bytes (take k words)) l₀ → l' ≡ put (at + 8 * k) (big_endian 8 (get_or words k 0)) l
    → l' ≡ put at (words_bytes (take (k + 1) words)) l₀
put_more at k words l₀ l l' h r e e' =
    rw (take_more words k 0 h)
    (put_further at (at + 8 * k) (take k words) (get_or words k 0 ∷ []) l₀ l l' (omega (arith, length-take-le k words (omega arith))) (omega arith) e (put_one (at + 8 * k) (get_or words k 0) l l' e'))
