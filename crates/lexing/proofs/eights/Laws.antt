-- Numbers by their bytes: sums, differences and bit operations go byte by byte.
use mathlib.Core.Path.{◌≡◌, refl, sym, ap, ap₂, ◌∙◌}
use mathlib.Core.Bool.{Bool, true, false}
use mathlib.Core.List.{List}
use Prim.Native.Nat.{ℕ, zero, suc, ◌+◌, ◌-◌, ◌*◌, ◌/◌, ◌%◌, ◌^◌, ◌≤◌, ◌<◌, zero-le}
use native.Mathlib.Omega.{arith}
use native.Mathlib.Nat.{mod-one, pow-suc}
use lib.Arith.{mod-mul}
use lib.Bits.{bit_and, bit_or, bit_xor, and_le_l, and_le_r, xor_add_and, xor_self, and_lt, or_lt, xor_lt, and_block, or_block, xor_block}
use lib.Count.{count_trailing_zeros, under, trailing_le, trailing_of_zero}
use lib.Dec.{eqb}
use lib.ListN.{length, get_or}
use lib.Pow.{pow_pos, pow-add}
use borrow.Author.Tests.{eq-eqb, ne_eqb, eqb-true, eqb-false}
use Rattle.lexing.specs.bytes.{within, lower}
use Rattle.lexing.specs.inner.eights.{pack, byte_at, bytes_from, failed, failing, is_alpha, is_ascii, is_byte, is_capital}
use Rattle.lexing.specs.answers.{LacksIf}
use Rattle.lexing.proofs.EveryByte.{every, every_at}
use Rattle.lexing.proofs.Tests.{eq_of}

-- all are bytes
abbrev pub Bytes : (ℕ → ℕ) → Type 0
Bytes f = (j : ℕ) → f j < 256

-- packed numbers
pack_same : (n : ℕ) (f g : ℕ → ℕ) → ((j : ℕ) → f j ≡ g j) → pack n f ≡ pack n g
unfolding pack
pack_same zero f g h = refl
pack_same (suc n) f g h = omega (arith, pack_same n (λ j. f (suc j)) (λ j. g (suc j)) (λ j. h (suc j)), h 0)

pack_le : (n : ℕ) (f g : ℕ → ℕ) → ((j : ℕ) → f j ≤ g j) → pack n f ≤ pack n g
unfolding pack
pack_le zero f g h = zero-le
pack_le (suc n) f g h = omega (arith, pack_le n (λ j. f (suc j)) (λ j. g (suc j)) (λ j. h (suc j)), h 0)

-- an operation that goes by the lowest byte and the rest goes byte by byte
abbrev Block : (ℕ → ℕ → ℕ) → Type 0
Block op = (a b r s : ℕ) → r < 256 → s < 256 → op (a * 256 + r) (b * 256 + s) ≡ op a b * 256 + op r s

pack_op : (op : ℕ → ℕ → ℕ) → op 0 0 ≡ 0 → Block op → (n : ℕ) (f g : ℕ → ℕ) → Bytes f → Bytes g → op (pack n f) (pack n g) ≡ pack n (λ j. op (f j) (g j))
unfolding pack
pack_op op z b zero f g p q = z
pack_op op z b (suc n) f g p q =
    b _ _ _ _ (p 0) (q 0) ∙ ap (λ (x : ℕ). x * 256 + op (f 0) (g 0)) (pack_op op z b n (λ j. f (suc j)) (λ j. g (suc j)) (λ j. p (suc j)) (λ j. q (suc j)))

pack_sub : (n : ℕ) (f g : ℕ → ℕ) → ((j : ℕ) → g j ≤ f j) → pack n f - pack n g ≡ pack n (λ j. f j - g j)
unfolding pack
pack_sub zero f g h = refl
pack_sub (suc n) f g h =
    omega (arith, pack_le n (λ j. g (suc j)) (λ j. f (suc j)) (λ j. h (suc j)), pack_sub n (λ j. f (suc j)) (λ j. g (suc j)) (λ j. h (suc j)), h 0)

-- the bytes of a number
byte_lt : (w : ℕ) → Bytes (byte_at w)
unfolding byte_at
byte_lt w zero = omega arith
byte_lt w (suc j) = byte_lt (w / 256) j

pack_bytes : (n w : ℕ) → w < 256 ^ n → w ≡ pack n (byte_at w)
unfolding pack byte_at
pack_bytes zero w h = omega arith
pack_bytes (suc n) w h = omega (arith, pack_bytes n (w / 256) (omega arith))

byte_pack : (n : ℕ) (f : ℕ → ℕ) → Bytes f → (j : ℕ) → j < n → byte_at (pack n f) j ≡ f j
unfolding pack byte_at
byte_pack zero f p j h = absurd (omega arith)
byte_pack (suc n) f p zero h = omega (arith, p 0)
byte_pack (suc n) f p (suc j) h =
    let z : (pack n (λ j. f (suc j)) * 256 + f 0) / 256 ≡ pack n (λ j. f (suc j)) = omega (arith, p 0) in
    rw z (byte_pack n (λ j. f (suc j)) (λ j. p (suc j)) j (omega arith))

-- equal numbers have equal bytes
pub pack_alike : (n : ℕ) (f g : ℕ → ℕ) → Bytes f → Bytes g → pack n f ≡ pack n g → (j : ℕ) → j < n → f j ≡ g j
pack_alike n f g p q e j h = sym (byte_pack n f p j h) ∙ (ap (λ (w : ℕ). byte_at w j) e ∙ byte_pack n g q j h)

-- four bytes, and twice four, as the code sums them
module _ (u : List ℕ) (i : ℕ) where
  pub four_sum : get_or u i 0 + get_or u (i + 1) 0 * 0x100 + get_or u (i + 2) 0 * 0x10000 + get_or u (i + 3) 0 * 0x1000000 ≡ pack 4 (bytes_from u i)
  unfolding pack
  four_sum = let z : i + 0 ≡ i = omega arith in omega (arith, ap (λ (k : ℕ). get_or u k 0) z)

  pub eight_sum : pack 4 (bytes_from u i) + pack 4 (bytes_from u (i + 4)) * 0x100000000 ≡ pack 8 (bytes_from u i)
  unfolding pack
  eight_sum =
      let z : (j : ℕ) → i + 4 + j ≡ i + (4 + j) = λ j. omega arith in
      omega (arith, pack_same 4 (bytes_from u (i + 4)) (λ j. bytes_from u i (4 + j)) (λ j. ap (λ (k : ℕ). get_or u k 0) (z j)))

  pub four_le : Bytes (λ j. get_or u j 0) → pack 4 (bytes_from u i) ≤ 0xffffffff
  unfolding pack
  four_le h = pack_le 4 (bytes_from u i) (λ j. 0xff) (λ j. omega (arith, h (i + j)))

-- the eight bytes of w are f 0, f 1, ..
record Eight (w : ℕ) (f : ℕ → ℕ) : Type 0 where
  is : w ≡ pack 8 f
  byte : Bytes f

own_bytes : (w : ℕ) → w < 2 ^ 64 → Eight w (byte_at w)
own_bytes w h = record { is = pack_bytes 8 w h; byte = byte_lt w }

alike : (c : ℕ) → c < 256 → Eight (pack 8 (λ j. c)) (λ j. c)
alike c h = record { is = refl; byte = λ j. h }

module _ {w v : ℕ} {f g : ℕ → ℕ} (p : Eight w f) (q : Eight v g) where
  each : (op : ℕ → ℕ → ℕ) → op 0 0 ≡ 0 → Block op → ((j : ℕ) → op (f j) (g j) < 256) → Eight (op w v) (λ j. op (f j) (g j))
  each op z b h = record { is = ap₂ op p.is q.is ∙ pack_op op z b 8 f g p.byte q.byte; byte = h }

  each_and : Eight (bit_and w v) (λ j. bit_and (f j) (g j))
  each_and = each bit_and refl (and_block 8) (λ j. and_lt 8 (f j) (g j) (p.byte j) (q.byte j))

  each_or : Eight (bit_or w v) (λ j. bit_or (f j) (g j))
  each_or = each bit_or refl (or_block 8) (λ j. or_lt 8 (f j) (g j) (p.byte j) (q.byte j))

  each_xor : Eight (bit_xor w v) (λ j. bit_xor (f j) (g j))
  each_xor = each bit_xor refl (xor_block 8) (λ j. xor_lt 8 (f j) (g j) (p.byte j) (q.byte j))

  each_add : ((j : ℕ) → f j + g j < 256) → Eight (w + v) (λ j. f j + g j)
  each_add = each ◌+◌ refl (λ a b r s l k. omega arith)

  each_sub : ((j : ℕ) → g j ≤ f j) → Eight (w - v) (λ j. f j - g j)
  each_sub h = record { is = ap₂ ◌-◌ p.is q.is ∙ pack_sub 8 f g h; byte = λ j. omega (arith, p.byte j) }

at_most : {w c : ℕ} {f : ℕ → ℕ} → Eight w f → ((j : ℕ) → f j ≤ c) → w ≤ pack 8 (λ j. c)
at_most {w} {c} {f} p h = omega (arith, p.is, pack_le 8 f (λ j. c) h)

-- bits g of a byte that tell where it fails a test: one law for all tests of eight bytes, and g is looked at once for each byte
fails_by : (t : ℕ → Bool) (g : ℕ → ℕ) → every 256 (λ x. eqb (g x) (failed (t x))) ≡ true → (w : ℕ) {m : ℕ} → Eight m (λ j. g (byte_at w j)) → m ≡ failing t w
unfolding failing
fails_by t g e w p = p.is ∙ pack_same 8 _ _ (λ j. eq_of _ _ (every_at 256 (λ x. eqb (g x) (failed (t x))) e (byte_at w j) (byte_lt w j)))

-- ASCII
ascii_all : every 256 (λ x. eqb (bit_and x 0x80) (failed (is_ascii x))) ≡ true
unfolding every failed
ascii_all = refl

pub ascii_fails : (w : ℕ) → w < 2 ^ 64 → bit_and w 0x8080808080808080 ≡ failing is_ascii w
unfolding pack
ascii_fails w h = fails_by is_ascii (λ x. bit_and x 0x80) ascii_all w (each_and (own_bytes w h) (alike 0x80 (omega arith)))

-- bytes outside a range, each folded by g first: the bits of a byte, and of eight, as the code computes them
abbrev outside_bits : (ℕ → ℕ) → ℕ → ℕ → ℕ → ℕ
outside_bits g m l x = bit_and (bit_or (bit_or (m - g x) (g x + l)) x) 0x80

outside : (t : ℕ → Bool) (g : ℕ → ℕ) (m l : ℕ) → every 256 (λ x. eqb (outside_bits g m l x) (failed (t x))) ≡ true → ((x : ℕ) → g x ≤ 0x7f) → ((0x7f ≤ m) × (m < 256)) × (l ≤ 0x80)
    → (w : ℕ) → w < 2 ^ 64 → {v : ℕ} → Eight v (λ j. g (byte_at w j)) → bit_and (bit_or (bit_or (pack 8 (λ j. m) - v) (v + pack 8 (λ j. l))) w) (pack 8 (λ j. 0x80)) ≡ failing t w
outside t g m l e le b w h p =
    let below = each_sub (alike m b.0.1) p (λ j. omega (arith, le (byte_at w j))) in
    let above = each_add p (alike l (omega arith)) (λ j. omega (arith, le (byte_at w j))) in
    fails_by t (outside_bits g m l) e w (each_and (each_or (each_or below above) (own_bytes w h)) (alike 0x80 (omega arith)))

-- letters
abbrev folded : ℕ → ℕ
folded x = bit_or (bit_and x 0x7f) 0x20

alpha_all : every 256 (λ x. eqb (outside_bits folded 0xe0 0x05 x) (failed (is_alpha x))) ≡ true
unfolding every failed is_alpha within lower
alpha_all = refl

folded_le : (x : ℕ) → folded x ≤ 0x7f
folded_le x = let h : bit_and x 0x7f ≤ 0x7f = and_le_r x 0x7f in omega (arith, or_lt 7 (bit_and x 0x7f) 0x20 (omega arith) (omega arith))

abbrev folded_eight : ℕ → ℕ
folded_eight w = bit_or (bit_and w 0x7f7f7f7f7f7f7f7f) 0x2020202020202020

module _ (w : ℕ) (h : w < 2 ^ 64) where
  folds : Eight (folded_eight w) (λ j. folded (byte_at w j))
  unfolding pack
  folds = each_or (each_and (own_bytes w h) (alike 0x7f (omega arith))) (alike 0x20 (omega arith))

  pub folded_fits : folded_eight w ≤ 0x7f7f7f7f7f7f7f7f
  unfolding pack
  folded_fits = at_most folds (λ j. folded_le (byte_at w j))

  pub alpha_fails : bit_and (bit_or (bit_or (0xe0e0e0e0e0e0e0e0 - folded_eight w) (folded_eight w + 0x0505050505050505)) w) 0x8080808080808080 ≡ failing is_alpha w
  unfolding pack
  alpha_fails = outside is_alpha folded 0xe0 0x05 alpha_all folded_le (omega arith) w h folds

-- capital letters
capital_all : every 256 (λ x. eqb (outside_bits (λ y. bit_and y 0x7f) 0xc0 0x25 x) (failed (is_capital x))) ≡ true
unfolding every failed within
capital_all = refl

pub capital_fails : (w : ℕ) → w < 2 ^ 64 → bit_and (bit_or (bit_or (0xc0c0c0c0c0c0c0c0 - bit_and w 0x7f7f7f7f7f7f7f7f) (bit_and w 0x7f7f7f7f7f7f7f7f + 0x2525252525252525)) w) 0x8080808080808080 ≡ failing is_capital w
unfolding pack
capital_fails w h = outside is_capital _ 0xc0 0x25 capital_all (λ x. and_le_r x 0x7f) (omega arith) w h (each_and (own_bytes w h) (alike 0x7f (omega arith)))

-- bytes that are not x: the bits of their difference
abbrev zero_bits : ℕ → ℕ
zero_bits z = bit_and (bit_or (bit_and z 0x7f + 0x7f) z) 0x80

zero_all : every 256 (λ z. eqb (zero_bits z) (failed (eqb z 0))) ≡ true
unfolding every failed
zero_all = refl

xor_none : (y x : ℕ) → eqb (bit_xor y x) 0 ≡ eqb y x
xor_none y x = go (eqb y x) refl
  where
    go : (t : Bool) → eqb y x ≡ t → eqb (bit_xor y x) 0 ≡ t
    go true e = eq-eqb (bit_xor y x) 0 (ap (λ (z : ℕ). bit_xor z x) (eq_of y x e) ∙ xor_self x)
    go false e = ne_eqb (bit_xor y x) 0 (λ z. eqb-false y x e (omega (arith, z, xor_add_and y x, and_le_l y x, and_le_r y x)))

abbrev other_eight : ℕ → ℕ → ℕ
other_eight w x = bit_xor w (x * 0x0101010101010101)

pub other_fits : (w x : ℕ) → bit_and (other_eight w x) 0x7f7f7f7f7f7f7f7f ≤ 0x7f7f7f7f7f7f7f7f
other_fits w x = and_le_r (other_eight w x) 0x7f7f7f7f7f7f7f7f

pub other_fails : (w x : ℕ) → w < 2 ^ 64 → x < 256 → bit_and (bit_or (bit_and (other_eight w x) 0x7f7f7f7f7f7f7f7f + 0x7f7f7f7f7f7f7f7f) (other_eight w x)) 0x8080808080808080 ≡ failing (is_byte x) w
unfolding pack failing
other_fails w x h k =
    let each_x : Eight (x * 0x0101010101010101) (λ j. x) = record { is = omega arith; byte = λ j. k } in
    let other = each_xor (own_bytes w h) each_x in
    let some = each_add (each_and other (alike 0x7f (omega arith))) (alike 0x7f (omega arith)) (λ j. omega (arith, and_le_r (bit_xor (byte_at w j) x) 0x7f)) in
    let bits = each_and (each_or some other) (alike 0x80 (omega arith)) in
    bits.is ∙ pack_same 8 _ _ (λ j. eq_of _ _ (every_at 256 (λ z. eqb (zero_bits z) (failed (eqb z 0))) zero_all (bit_xor (byte_at w j) x) (other.byte j)) ∙ ap failed (xor_none (byte_at w j) x))

-- trailing zeros: as many as the powers of two that divide the number
mod_half : (t m : ℕ) → m % 2 ^ suc t ≡ m / 2 % 2 ^ t * 2 + m % 2
mod_half t m = ap (λ (x : ℕ). m % x) (pow-suc 2 t) ∙ mod-mul m (pow_pos t) (omega arith)

trailing_mod : (t k m : ℕ) → t ≤ count_trailing_zeros k m → m % 2 ^ t ≡ 0
unfolding count_trailing_zeros
trailing_mod zero k m h = mod-one m
trailing_mod (suc t) zero m h = absurd (omega arith)
trailing_mod (suc t) (suc k) m h = go (m % 2) refl h (trailing_mod t k (m / 2))
  where
    go : (d : ℕ) → m % 2 ≡ d → suc t ≤ under d (count_trailing_zeros k (m / 2)) → (t ≤ count_trailing_zeros k (m / 2) → m / 2 % 2 ^ t ≡ 0) → m % 2 ^ suc t ≡ 0
    go zero e l ih = omega (arith, mod_half t m, ih (omega arith))
    go (suc d) e l ih = absurd (omega arith)

trailing_at : (t k m : ℕ) → t ≤ k → m % 2 ^ t ≡ 0 → t ≤ count_trailing_zeros k m
unfolding count_trailing_zeros
trailing_at zero k m h e = zero-le
trailing_at (suc t) zero m h e = absurd (omega arith)
trailing_at (suc t) (suc k) m h e = go (m % 2) refl (trailing_at t k (m / 2) (omega arith))
  where
    go : (d : ℕ) → m % 2 ≡ d → (m / 2 % 2 ^ t ≡ 0 → t ≤ count_trailing_zeros k (m / 2)) → suc t ≤ under d (count_trailing_zeros k (m / 2))
    go zero q ih = let l = ih (omega (arith, mod_half t m)) in omega arith
    go (suc d) q ih = absurd (omega (arith, mod_half t m))

pub no_bits : {m : ℕ} → m ≡ 0 → count_trailing_zeros 64 m / 8 ≡ 8
no_bits z = omega (arith, ap (count_trailing_zeros 64) z ∙ trailing_of_zero 64)

-- a byte below which no bit is set, and which has none
zero_byte : (n : ℕ) (f : ℕ → ℕ) → Bytes f → (j : ℕ) → j < n → pack n f % 2 ^ (j * 8 + 8) ≡ 0 → f j ≡ 0
unfolding pack
zero_byte zero f p j h e = absurd (omega arith)
zero_byte (suc n) f p zero h e = omega (arith, p 0)
zero_byte (suc n) f p (suc j) h e =
    let r = pack n (λ j. f (suc j)) in
    let q : 2 ^ (suc j * 8 + 8) ≡ 2 ^ (j * 8 + 8) * 256 = let z : suc j * 8 + 8 ≡ j * 8 + 8 + 8 = omega arith in ap (λ (x : ℕ). 2 ^ x) z ∙ pow-add 2 (j * 8 + 8) 8 in
    let d : (r * 256 + f 0) / 256 ≡ r = omega (arith, p 0) in
    let m : (r * 256 + f 0) / 256 % 2 ^ (j * 8 + 8) * 256 + (r * 256 + f 0) % 256 ≡ 0 = sym (mod-mul (r * 256 + f 0) (pow_pos (j * 8 + 8)) (omega arith)) ∙ (ap (λ (x : ℕ). (r * 256 + f 0) % x) (sym q) ∙ e) in
    zero_byte n (λ j. f (suc j)) (λ j. p (suc j)) j (omega arith) (ap (λ (x : ℕ). x % 2 ^ (j * 8 + 8)) (sym d) ∙ omega arith)

-- the bytes below the lowest bit that is set
zero_bytes : (f : ℕ → ℕ) → Bytes f → (j : ℕ) → j < count_trailing_zeros 64 (pack 8 f) / 8 → f j ≡ 0
zero_bytes f p j h = zero_byte 8 f p j (omega (arith, trailing_le 64 (pack 8 f))) (trailing_mod (j * 8 + 8) 64 (pack 8 f) (omega arith))

-- what the bits tell of a byte
failed_lt : (b : Bool) → failed b < 256
unfolding failed
failed_lt true = omega arith
failed_lt false = omega arith

failed_not : (b : Bool) → failed b ≡ 0 → b ≡ true
unfolding failed
failed_not true e = refl
failed_not false e = absurd (omega arith)

failed_so : (b : Bool) → failed b ≡ 0x80 → b ≡ false
unfolding failed
failed_so true e = absurd (omega arith)
failed_so false e = refl

-- and of the bytes of a part
module _ (t : ℕ → Bool) (u : List ℕ) (i w m : ℕ) (b : Bytes (λ j. get_or u j 0)) (e : w ≡ pack 8 (bytes_from u i)) (d : m ≡ failing t w) where
  same_byte : (j : ℕ) → j < 8 → t (byte_at w j) ≡ t (get_or u (i + j) 0)
  same_byte j h = ap (λ (v : ℕ). t (byte_at v j)) e ∙ ap t (byte_pack 8 (bytes_from u i) (λ k. b (i + k)) j h)

  -- those before the first that fails
  pub passing : (j : ℕ) → j < count_trailing_zeros 64 m / 8 → t (get_or u (i + j) 0) ≡ true
  unfolding failing
  passing j h = sym (same_byte j (omega (arith, trailing_le 64 m))) ∙ failed_not _ (zero_bytes (λ k. failed (t (byte_at w k))) (λ k. failed_lt (t (byte_at w k))) j (rw d at h))

  -- there is one where the first passes
  pub some_passing : t (get_or u (i + 0) 0) ≡ true → 0 < count_trailing_zeros 64 m / 8
  unfolding failing pack failed
  some_passing p = omega (arith, trailing_at 8 64 m (omega arith) (omega (arith, d, ap failed (same_byte 0 (omega arith) ∙ p))))

  -- all fail
  pub all_failing : (j : ℕ) → m ≡ 0x8080808080808080 → j < 8 → t (get_or u (i + j) 0) ≡ false
  unfolding failing pack
  all_failing j z h =
      let k = byte_pack 8 (λ k. failed (t (byte_at w k))) (λ k. failed_lt (t (byte_at w k))) j h in
      let c = byte_pack 8 (λ k. 0x80) (λ k. omega arith) j h in
      sym (same_byte j h) ∙ failed_so _ (sym k ∙ (ap (λ (v : ℕ). byte_at v j) (sym d ∙ z) ∙ c))

-- so that a reader can say of eight bytes that none is x
pub lacks_eight : (x : ℕ) (u : List ℕ) (i w m : ℕ) → Bytes (λ j. get_or u j 0) → w ≡ pack 8 (bytes_from u i) → m ≡ failing (is_byte x) w → 8 ≤ length u - i → LacksIf (eqb m 0x8080808080808080) x u i
lacks_eight x u i w m b e d l = go (eqb m 0x8080808080808080) refl
  where
    go : (t : Bool) → eqb m 0x8080808080808080 ≡ t → LacksIf t x u i
    go true q = (omega arith, λ j h. eqb-false _ _ (all_failing (is_byte x) u i w m b e d j (eqb-true _ _ q) h))
    go false q = tt
