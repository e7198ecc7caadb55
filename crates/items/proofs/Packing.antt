-- Packing loses nothing: values that fit their widths come back, and so does a word from its values, over any widths; so does a word from its bytes.
use Prim.Native.Nat.{ℕ, zero, suc, ◌+◌, ◌-◌, ◌*◌, ◌^◌, ◌/◌, ◌%◌, ◌≤◌, ◌<◌}
use mathlib.Core.Path.{◌≡◌, refl, sym, ◌∙◌, ap}
use mathlib.Core.List.{List, [], ◌∷◌, ◌++◌}
use native.Mathlib.Omega.{arith}
use native.Mathlib.Nat.{pow-zero, pow-suc, mul-one, mul_assoc, add-mul, zero-mul, suc-mul, one-le-pow, mul-le-mul_right, mul-add-div_right, mul-add-mod_self_right, div-eq_of_lt, mod-eq_of_lt, div-one, div-div-eq-div-mul, div-add-mod', div-lt_iff_lt-mul}
use lib.ListN.{length, length-append}
use Rattle.items.specs.records.{Bits, bits}
use Rattle.lexing.specs.buffers.{big_endian, from_big_endian}
use Rattle.items.specs.layout.{packed, width, total, unpacked, from_top}

-- every value fits its width
abbrev pub Fit : List Bits → Type 0
Fit [] = Unit {0}
Fit (bits w v ∷ l) = (v < 2 ^ w) × Fit l

pow_add : (a m n : ℕ) → a ^ (m + n) ≡ a ^ m * a ^ n
pow_add a m zero = let z : m + 0 ≡ m = omega arith in ap (λ k. a ^ k) z ∙ sym (mul-one (a ^ m)) ∙ ap (λ k. a ^ m * k) (sym (pow-zero a))
pow_add a m (suc n) =
    let z : m + suc n ≡ suc (m + n) = omega arith in
    ap (λ k. a ^ k) z ∙ pow-suc a (m + n) ∙ ap (λ k. k * a) (pow_add a m n) ∙ mul_assoc (a ^ m) (a ^ n) a ∙ ap (λ k. a ^ m * k) (sym (pow-suc a n))

pow_pos : (n : ℕ) → 0 < 2 ^ n
pow_pos n = one-le-pow n 2 (omega arith)

nought : (w v : ℕ) → 0 * 2 ^ w + v ≡ v
nought w v = let z : 0 * 2 ^ w ≡ 0 = zero-mul (2 ^ w) in omega (arith, z)

-- what is above
packed_above : (z : ℕ) (l : List Bits) → packed z l ≡ z * 2 ^ width l + packed 0 l
unfolding packed width
packed_above z [] = rw (pow-zero 2, mul-one z) (omega arith)
packed_above z (bits w v ∷ l) =
    packed_above (z * 2 ^ w + v) l
    ∙ ap (λ k. k + packed 0 l) (add-mul (z * 2 ^ w) v (2 ^ width l) ∙ ap (λ k. k + v * 2 ^ width l) (mul_assoc z (2 ^ w) (2 ^ width l) ∙ ap (λ k. z * k) (sym (pow_add 2 w (width l)))))
    ∙ three (z * 2 ^ (w + width l)) (v * 2 ^ width l) (packed 0 l)
    ∙ ap (λ k. z * 2 ^ (w + width l) + k) (sym (packed_above v l) ∙ ap (λ k. packed k l) (sym (nought w v)))
  where
    three : (a b c : ℕ) → a + b + c ≡ a + (b + c)
    three a b c = omega arith

-- no value spills over
pub packed_less : (l : List Bits) → Fit l → packed 0 l < 2 ^ width l
unfolding packed width
packed_less [] h = pow_pos 0
packed_less (bits w v ∷ l) h =
    let e : packed (0 * 2 ^ w + v) l ≡ v * 2 ^ width l + packed 0 l = ap (λ k. packed k l) (nought w v) ∙ packed_above v l in
    rw (e, pow_add 2 w (width l)) (sum (v * 2 ^ width l) (packed 0 l) (2 ^ width l) (2 ^ w * 2 ^ width l) (packed_less l h.1) (rw (suc-mul v (2 ^ width l)) at (mul-le-mul_right (2 ^ width l) h.0)))
  where
    sum : (a x p q : ℕ) → x < p → a + p ≤ q → a + x < q
    sum a x p q h k = omega arith

-- what is above the last values l
pub packed_high : (z : ℕ) (l : List Bits) → Fit l → packed z l / 2 ^ width l ≡ z
packed_high z l h = rw (packed_above z l, mul-add-div_right (pow_pos (width l)) z (packed 0 l), div-eq_of_lt (packed_less l h)) (omega arith)

-- a value comes back by a division and a remainder, whatever is above it
pub value_back : (z w v : ℕ) (l : List Bits) → v < 2 ^ w → Fit l → packed z (bits w v ∷ l) / 2 ^ width l % 2 ^ w ≡ v
unfolding packed
value_back z w v l h k = rw (packed_high (z * 2 ^ w + v) l k, mul-add-mod_self_right z (2 ^ w) v) (mod-eq_of_lt h)

-- the widths of values
abbrev pub bits_of : List Bits → List ℕ
bits_of [] = []
bits_of (bits w v ∷ l) = w ∷ bits_of l

pub width_total : (l : List Bits) → width l ≡ total (bits_of l)
unfolding width total
width_total [] = refl
width_total (bits w v ∷ l) = ap (λ k. w + k) (width_total l)

-- Unpacking is the inverse of packing, both ways, over any widths.

-- what was packed comes back, whatever is above it
pub unpack_pack : (z : ℕ) (l : List Bits) → Fit l → unpacked (bits_of l) (packed z l) ≡ l
unfolding packed unpacked
unpack_pack z [] h = refl
unpack_pack z (bits w v ∷ l) h = rw (sym (width_total l), value_back z w v l h.0 h.1, unpack_pack (z * 2 ^ w + v) l h.1) refl

pack_above : (l : List ℕ) (z : ℕ) → packed (z / 2 ^ total l) (unpacked l z) ≡ z
unfolding packed total unpacked
pack_above [] z = ap (λ k. z / k) (pow-zero 2) ∙ div-one z
pack_above (w ∷ l) z =
    let s : w + total l ≡ total l + w = omega arith in
    let e : z / 2 ^ (w + total l) ≡ z / 2 ^ total l / 2 ^ w = ap (λ k. z / 2 ^ k) s ∙ ap (λ k. z / k) (pow_add 2 (total l) w) ∙ sym (div-div-eq-div-mul z (2 ^ total l) (2 ^ w)) in
    ap (λ k. packed (k * 2 ^ w + z / 2 ^ total l % 2 ^ w) (unpacked l z)) e ∙ ap (λ k. packed k (unpacked l z)) (div-add-mod' (z / 2 ^ total l) (2 ^ w)) ∙ pack_above l z

-- a word of as many bits as the widths is what its values pack to
pub pack_unpack : (l : List ℕ) (z : ℕ) → z < 2 ^ total l → packed 0 (unpacked l z) ≡ z
pack_unpack l z h = ap (λ k. packed k (unpacked l z)) (sym (div-eq_of_lt h)) ∙ pack_above l z

-- values from the top, the rest zero
pub from_top_less : (n : ℕ) (l : List Bits) → Fit l → width l ≤ n → from_top n l < 2 ^ n
unfolding from_top
from_top_less n l h k =
    let z : width l + (n - width l) ≡ n = omega arith in
    let e : suc (packed 0 l) * 2 ^ (n - width l) ≤ 2 ^ width l * 2 ^ (n - width l) = mul-le-mul_right (2 ^ (n - width l)) (packed_less l h) in
    below (packed 0 l * 2 ^ (n - width l)) (2 ^ (n - width l)) (2 ^ n) (pow_pos (n - width l)) (rw (suc-mul (packed 0 l) (2 ^ (n - width l)), sym (pow_add 2 (width l) (n - width l)), z) at e)
  where
    below : (a p q : ℕ) → 0 < p → a + p ≤ q → a < q
    below a p q h k = omega arith

-- bytes, the most significant first
from_last : (l : List ℕ) (x : ℕ) → from_big_endian (l ++ (x ∷ [])) ≡ from_big_endian l * 256 + x
unfolding from_big_endian
from_last [] x = omega (arith, mul-one x)
from_last (y ∷ l) x =
    let n : length (l ++ (x ∷ [])) ≡ suc (length l) = omega (arith, length-append l (x ∷ [])) in
    let e : y * 256 ^ length (l ++ (x ∷ [])) ≡ y * 256 ^ length l * 256 = ap (λ k. y * 256 ^ k) n ∙ ap (λ k. y * k) (pow-suc 256 (length l)) ∙ sym (mul_assoc y (256 ^ length l) 256) in
    omega (arith, e, from_last l x)

pub word_back : (n w : ℕ) → w < 256 ^ n → from_big_endian (big_endian n w) ≡ w
unfolding big_endian from_big_endian
word_back zero w h = let k : w < 1 = rw (pow-zero 256) at h in omega arith
word_back (suc n) w h =
    from_last (big_endian n (w / 256)) (w % 256)
    ∙ ap (λ k. k * 256 + w % 256) (word_back n (w / 256) ((div-lt_iff_lt-mul {k = 256} (omega arith)).1 (rw (pow-suc 256 n) at h)))
    ∙ div-add-mod' w 256
