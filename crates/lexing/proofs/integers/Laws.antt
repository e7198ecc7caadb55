-- Laws of integers: one for each way through a function.
use Prim.Native.Nat.{ℕ, zero, suc, ◌+◌, ◌*◌, ◌-◌, ◌/◌, ◌≤◌, ◌<◌, zero-le}
use mathlib.Core.Path.{◌≡◌, refl, sym, ◌∙◌, ap, subst}
use mathlib.Core.Bool.{Bool, true, false, ◌||◌, false≢true}
use mathlib.Core.List.{List, [], ◌∷◌}
use native.Mathlib.Omega.{arith}
use native.Mathlib.Numerals.{add-one}
use native.Mathlib.Nat.{div-lt_iff_lt-mul, le-div_iff_mul-le, le-mul_of_pos_right, le_refl}
use borrow.Author.Tests.{le-leb, lt-leb, leb-true, leb-false, eq-eqb, ne_eqb}
use lib.Dec.{leb, eqb}
use lib.ListN.{length, drop, get_or, drop_of_length-le, length-drop}
use lib.Seq.{drop-cons, drop-drop}
use Rattle.lexing.specs.bytes.{plus, minus, within, is_digit, is_hex, list_take_while, list_drop_while, digit, number}
use Rattle.lexing.specs.reply.{ok, fail, stop, Parser, catch}
use Rattle.lexing.specs.integers.{u64_max, fitting, hex_integer, decimal_integer, positive_integer, signed, largest, in_range, after_sign, signed_integer}
use Rattle.lexing.specs.inner.integers.{digit_test, radix, digits_are, is_hex_ahead}
use Rattle.std.specs.Prelude.{Option, Some, None}
use Rattle.lexing.proofs.Tests.{and_right, within_of}
use Rattle.lexing.proofs.Scans.{drop_run, run_cons, run_none, run_le, RunAt, runs_start, runs_more, runs_stop, runs_out}
use Rattle.lexing.proofs.TokenRuns.{digits_nil, digits_yes, digits_no, hex_nil, hex_one, hex_two, hex_yes, hex_else}

-- a byte that is not 0 is inside
pub byte_inside : (u : List ℕ) (i : ℕ) → (get_or u i 0 ≡ 0 → ⊥) → i < length u
byte_inside [] i h = absurd (h refl)
byte_inside (x ∷ u) zero h = omega arith
byte_inside (x ∷ u) (suc i) h = omega (arith, byte_inside u i h)

-- digits
module _ (x : ℕ) where
  pub digit_low : is_digit x ≡ true → 0x30 ≤ x
  unfolding is_digit
  digit_low e = (within_of 0x30 0x39 x e).0

  pub digit_decimal : is_digit x ≡ true → x - 0x30 ≡ digit x
  unfolding digit
  digit_decimal e = rw (e, digit)

  module _ (other : is_digit x ≡ false) where
    pub digit_small : within 0x61 0x66 x ≡ true → x - 0x61 + 10 ≡ digit x
    unfolding digit
    digit_small e = rw (other, e, digit)

    module _ (e : within 0x61 0x66 x ≡ false) where
      pub digit_capital : x - 0x41 + 10 ≡ digit x
      unfolding digit
      digit_capital = rw (other, e, digit)

      pub capital_low : (h : Bool) → digit_test h x ≡ true → 0x41 ≤ x
      unfolding is_hex
      capital_low true d = (within_of 0x41 0x46 x (rw (other, e) at d)).0
      capital_low false d = absurd (false≢true (sym other ∙ d))

pub radix_pos : (h : Bool) → 0 < radix h
radix_pos true = omega arith
radix_pos false = omega arith

-- the digits that a loop has passed, with their value
pub record DigitsAt (h : Bool) (u : List ℕ) (v i : ℕ) : Type 0 where
  pub fits : v ≤ u64_max
  pub run : RunAt (digit_test h) u (length (list_take_while (digit_test h) u)) i
  pub left : number (radix h) v (list_take_while (digit_test h) (drop i u)) ≡ number (radix h) 0 (list_take_while (digit_test h) u)

pub digits_start : (h : Bool) (u : List ℕ) → DigitsAt h u 0 0
digits_start h u = record { fits = zero-le; run = runs_start _ u; left = refl }

-- more digits make no smaller number
number_grows : (r v : ℕ) (u : List ℕ) → 0 < r → v ≤ number r v u
unfolding number
number_grows r v [] h = le_refl v
number_grows r v (x ∷ u) h = omega (arith, number_grows r (v * r + digit x) u h, le-mul_of_pos_right v h)

module _ (f : ℕ → Bool) (r v : ℕ) (u : List ℕ) (i : ℕ) where
  one_more : i < length u → f (get_or u i 0) ≡ true → number r v (list_take_while f (drop i u)) ≡ number r (v * r + digit (get_or u i 0)) (list_take_while f (drop (i + 1) u))
  unfolding list_take_while number
  one_more h e = rw (add-one, drop-cons u i 0) (rw (e, list_take_while))

  no_more : i < length u → f (get_or u i 0) ≡ false → number r v (list_take_while f (drop i u)) ≡ v
  unfolding list_take_while number
  no_more h e = rw (drop-cons u i 0) (rw (e, list_take_while))

  at_end : length u ≤ i → number r v (list_take_while f (drop i u)) ≡ v
  unfolding list_take_while number
  at_end h = rw (drop_of_length-le u h)

-- room for one more digit
module _ (h : Bool) (v m : ℕ) (em : m ≡ u64_max / radix h) where
  pub product_fits : v ≤ m → (r : ℕ) → r ≡ radix h → v * r ≤ u64_max
  product_fits le r er = rw er ((le-div_iff_mul-le (radix_pos h)).0 (rw em at le))

  pub no_room : m < v → (d : ℕ) → false ≡ leb (v * radix h + d) u64_max
  no_room lt d = sym (lt-leb (v * radix h + d) u64_max (omega (arith, (div-lt_iff_lt-mul (radix_pos h)).0 (rw em at lt))))

module _ (h : Bool) (v d r : ℕ) (er : r ≡ radix h) where
  pub room : d ≤ u64_max → leb (v * r) (u64_max - d) ≡ leb (v * radix h + d) u64_max
  room le = rw (← er) (go (leb (v * r) (u64_max - d)) refl)
    where
      go : (t : Bool) → leb (v * r) (u64_max - d) ≡ t → leb (v * r) (u64_max - d) ≡ leb (v * r + d) u64_max
      go true e = e ∙ sym (le-leb (v * r + d) u64_max (omega (arith, leb-true (v * r) (u64_max - d) e)))
      go false e = e ∙ sym (lt-leb (v * r + d) u64_max (omega (arith, leb-false (v * r) (u64_max - d) e)))

  module _ (t : Bool) (et : t ≡ leb (v * radix h + d) u64_max) where
    pub with_room : t ≡ true → v * r + d ≤ u64_max
    with_room e = rw er (leb-true _ _ (sym et ∙ e))

    pub without_room : t ≡ false → u64_max < v * r + d
    without_room e = rw er (leb-false _ _ (sym et ∙ e))

module _ (h : Bool) (u : List ℕ) (v i : ℕ) (a : DigitsAt h u v i) where
  pub digits_out : length u ≤ i → digits_are h u (Some (v, i))
  digits_out le = (sym (at_end (digit_test h) (radix h) v u i le) ∙ a.left, (runs_out _ u i a.run le, a.fits))

  module _ (lt : i < length u) where
    pub digits_stop : digit_test h (get_or u i 0) ≡ false → digits_are h u (Some (v, i))
    digits_stop e = (sym (no_more (digit_test h) (radix h) v u i lt e) ∙ a.left, (runs_stop _ u i a.run lt e, a.fits))

    module _ (is : digit_test h (get_or u i 0) ≡ true) (r d : ℕ) (er : r ≡ radix h) (ed : d ≡ digit (get_or u i 0)) where
      next : number (radix h) (v * r + d) (list_take_while (digit_test h) (drop (i + 1) u)) ≡ number (radix h) 0 (list_take_while (digit_test h) u)
      next = rw (er, ed) (sym (one_more (digit_test h) (radix h) v u i lt is) ∙ a.left)

      pub digits_more : v * r + d ≤ u64_max → DigitsAt h u (v * r + d) (i + 1)
      digits_more le = record { fits = le; run = runs_more _ u i a.run lt is; left = next }

      pub digits_over : u64_max < v * r + d → digits_are h u None
      digits_over gt = omega (arith, rw next at (number_grows (radix h) (v * r + d) (list_take_while (digit_test h) (drop (i + 1) u)) (radix_pos h)))

-- the front of a hexadecimal number
hex_none : is_hex 0 ≡ false
unfolding is_hex is_digit within
hex_none = refl

digit_none : is_digit 0 ≡ false
unfolding is_digit within
digit_none = refl

module _ (u : List ℕ) (x : ℕ) (ex : x ≡ get_or u 0 0) where
  pub no_zero : (x ≡ 0x30 → ⊥) → false ≡ is_hex_ahead u
  unfolding is_hex_ahead
  no_zero h = rw (← ex, ne_eqb _ _ h)

  module _ (e : x ≡ 0x30) (y : ℕ) (ey : y ≡ get_or u 1 0) (t : Bool) (et : t ≡ (eqb y 0x78 || eqb y 0x58)) where
    pub no_x : t ≡ false → false ≡ is_hex_ahead u
    unfolding is_hex_ahead
    no_x h = rw (← ex, e, ← ey, ← et, h)

    pub by_third : t ≡ true → (z : ℕ) → z ≡ get_or u 2 0 → (s : Bool) → s ≡ is_hex z → s ≡ is_hex_ahead u
    unfolding is_hex_ahead
    by_third h z ez s es = rw (← ex, e, ← ey, ← et, h, ← ez) es

pub hex_inside : (u : List ℕ) → is_hex_ahead u ≡ true → 2 < length u
unfolding is_hex_ahead
hex_inside u e =
    let d = and_right (eqb (get_or u 1 0) 0x78 || eqb (get_or u 1 0) 0x58) (is_hex (get_or u 2 0)) (and_right (eqb (get_or u 0 0) 0x30) _ e) in
    byte_inside u 2 λ z. false≢true (sym hex_none ∙ (ap is_hex (sym z) ∙ d))

-- integers without a sign: hexadecimal after two bytes, or decimal
abbrev start : Bool → ℕ
start true = 2
start false = 0

abbrev Ahead : Bool → List ℕ → Type 0
Ahead true u = is_hex_ahead u ≡ true
Ahead false u = is_digit (get_or u 0 0) ≡ true

abbrev integer : Bool → Parser ℕ
integer true = hex_integer
integer false = decimal_integer

integer_as : (h : Bool) (b : ℕ) (u : List ℕ) → Ahead h u
    → integer h b u
    ≡ fitting b (number (radix h) 0 (list_take_while (digit_test h) (drop (start h) u))) (b + (start h + length (list_take_while (digit_test h) (drop (start h) u)))) (list_drop_while (digit_test h) (drop (start h) u))
unfolding is_hex_ahead
integer_as true b [] e = absurd (omega (arith, hex_inside [] e))
integer_as true b (x ∷ []) e = absurd (omega (arith, hex_inside (x ∷ []) e))
integer_as true b (x ∷ y ∷ []) e = absurd (omega (arith, hex_inside (x ∷ y ∷ []) e))
integer_as true b (x ∷ y ∷ z ∷ u) e = hex_yes b x y z u e
integer_as false b [] e = absurd (false≢true (sym digit_none ∙ e))
integer_as false b (x ∷ u) e =
    let z : 0 + length (list_take_while is_digit (x ∷ u)) ≡ length (list_take_while is_digit (x ∷ u)) = omega arith in
    rw z (digits_yes b x u e)

-- digits that were counted
module _ (h : Bool) (k b : ℕ) (u r : List ℕ) (er : r ≡ drop k u) (v n : ℕ) (a : digits_are h r (Some (v, n))) where
  run_after : drop (b + (k + n) - b) u ≡ list_drop_while (digit_test h) r
  run_after =
      let z : b + (k + n) - b ≡ k + n = omega arith in
      rw (z, ← drop-drop, ← er, a.1.0) (drop_run (digit_test h) r)

module _ (h : Bool) (r : List ℕ) (d : Option (ℕ × ℕ)) (a : digits_are h r d) where
  counted : {v n : ℕ} → d ≡ Some (v, n) → digits_are h r (Some (v, n))
  counted e = subst (λ (x : Option (ℕ × ℕ)). digits_are h r x) e a

  overflows : d ≡ None → u64_max < number (radix h) 0 (list_take_while (digit_test h) r)
  overflows e = subst (λ (x : Option (ℕ × ℕ)). digits_are h r x) e a

  pub digits_inside : {v n : ℕ} → d ≡ Some (v, n) → (k : ℕ) (u : List ℕ) → k ≤ length u → r ≡ drop k u → k + n ≤ length u
  digits_inside {v} {n} e k u le er = omega (arith, (counted e).1.0, run_le (digit_test h) r, ap length er, length-drop k u)

module _ (h : Bool) (b : ℕ) (u r : List ℕ) (ahead : Ahead h u) (er : r ≡ drop (start h) u) (d : Option (ℕ × ℕ)) (a : digits_are h r d) where
  pub integer_over : d ≡ None → stop 4 b ≡ integer h b u
  unfolding fitting
  integer_over e = sym (integer_as h b u ahead ∙ rw (← er) (rw (lt-leb _ _ (overflows h r d a e), fitting)))

  pub integer_value : {v n : ℕ} → d ≡ Some (v, n) → (c : ℕ) → c ≡ b + (start h + n) → ok v c (drop (c - b) u) ≡ integer h b u
  unfolding fitting
  integer_value {v} {n} e c ec =
      let l = counted h r d a e in
      rw (ec, run_after h (start h) b u r er v n l) (sym (integer_as h b u ahead ∙ rw (← er, ← l.0, ← l.1.0) (rw (le-leb _ _ l.1.1, fitting))))

pub decimal_no : (b : ℕ) (u : List ℕ) → is_digit (get_or u 0 0) ≡ false → fail b ≡ decimal_integer b u
decimal_no b [] e = sym (digits_nil b)
decimal_no b (x ∷ u) e = sym (digits_no b x u e)

-- hexadecimal first
hex_no : (b : ℕ) (u : List ℕ) → is_hex_ahead u ≡ false → (p : ℕ) × (hex_integer b u ≡ fail p)
unfolding is_hex_ahead
hex_no b [] e = (b, hex_nil b)
hex_no b (x ∷ []) e = (b, hex_one b x)
hex_no b (x ∷ y ∷ []) e = hex_two b x y
hex_no b (x ∷ y ∷ z ∷ u) e = let k = hex_else b x y z e in (k.0, k.1 u)

caught : (m : Parser ℕ) (h : ℕ → Parser ℕ) (b : ℕ) (u : List ℕ) (v c : ℕ) (r : List ℕ) → m b u ≡ fitting b v c r → m b u ≡ catch m h b u
unfolding catch fitting
caught m h b u v c r e = go (leb v u64_max) refl
  where
    go : (t : Bool) → leb v u64_max ≡ t → m b u ≡ catch m h b u
    go true q = let z : m b u ≡ ok v c r = e ∙ rw (q, fitting) in rw (z, catch)
    go false q = let z : m b u ≡ stop 4 b = e ∙ rw (q, fitting) in rw (z, catch)

module _ (b : ℕ) (u : List ℕ) where
  pub hex_first : is_hex_ahead u ≡ true → hex_integer b u ≡ positive_integer b u
  unfolding positive_integer
  hex_first e = caught hex_integer _ b u _ _ _ (integer_as true b u e)

  pub then_decimal : is_hex_ahead u ≡ false → decimal_integer b u ≡ positive_integer b u
  unfolding positive_integer catch
  then_decimal e = rw ((hex_no b u e).1, catch)

-- by the first two bytes
pub digit_inside : (u : List ℕ) → is_digit (get_or u 0 0) ≡ true → 0 < length u
digit_inside u e = byte_inside u 0 λ z. false≢true (sym digit_none ∙ (ap is_digit (sym z) ∙ e))

digit_no_x : (y : ℕ) → is_digit y ≡ true → (eqb y 0x78 || eqb y 0x58) ≡ false
unfolding is_digit
digit_no_x y d =
    let r = within_of 0x30 0x39 y d in
    let a : y ≡ 0x78 → ⊥ = λ e. omega arith in
    let b : y ≡ 0x58 → ⊥ = λ e. omega arith in
    rw (ne_eqb y 0x78 a, ne_eqb y 0x58 b)

zero_digit : is_digit 0x30 ≡ true
unfolding is_digit within
zero_digit = refl

lone_digit : (u : List ℕ) → is_digit (get_or u 0 0) ≡ true → is_digit (get_or u 1 0) ≡ false → list_take_while is_digit u ≡ get_or u 0 0 ∷ []
unfolding list_take_while
lone_digit [] p q = absurd (false≢true (sym digit_none ∙ p))
lone_digit (x ∷ []) p q = rw (p, list_take_while)
lone_digit (x ∷ y ∷ u) p q = run_cons is_digit x (y ∷ u) p ∙ ap (λ l. x ∷ l) (run_none is_digit y u q)

lone_value : (x : ℕ) → number 10 0 (x ∷ []) ≡ digit x
unfolding number
lone_value x = omega arith

digit_fits : (x v : ℕ) → is_digit x ≡ true → v ≡ digit x → v ≤ u64_max
unfolding is_digit
digit_fits x v d e = omega (arith, e, digit_decimal x d, within_of 0x30 0x39 x d)

module _ (b : ℕ) (u : List ℕ) where
  pub no_digit : is_digit (get_or u 0 0) ≡ false → fail b ≡ positive_integer b u
  unfolding is_hex_ahead
  no_digit e =
      let n : get_or u 0 0 ≡ 0x30 → ⊥ = λ z. false≢true (sym e ∙ (ap is_digit z ∙ zero_digit)) in
      decimal_no b u e ∙ then_decimal b u (rw (ne_eqb (get_or u 0 0) 0x30 n))

  module _ (y : ℕ) (ey : y ≡ get_or u 1 0) where
    no_second_x : (eqb y 0x78 || eqb y 0x58) ≡ false → decimal_integer b u ≡ positive_integer b u
    unfolding is_hex_ahead
    no_second_x e = then_decimal b u (go (eqb (get_or u 0 0) 0x30) refl)
      where
        go : (t : Bool) → eqb (get_or u 0 0) 0x30 ≡ t → is_hex_ahead u ≡ false
        go true q = rw (q, ← ey, e)
        go false q = rw q

    pub two_digits : is_digit y ≡ true → decimal_integer b u ≡ positive_integer b u
    two_digits d = no_second_x (digit_no_x y d)

    pub one_digit : (x : ℕ) → x ≡ get_or u 0 0 → is_digit x ≡ true → is_digit y ≡ false → (t : Bool) → t ≡ (eqb y 0x78 || eqb y 0x58) → t ≡ false → (v : ℕ) → v ≡ digit x
        → ok v (b + 1) (drop (b + 1 - b) u) ≡ positive_integer b u
    one_digit x ex d n t et e v ev =
        let ahead : is_digit (get_or u 0 0) ≡ true = ap is_digit (sym ex) ∙ d in
        let z = lone_digit u ahead (ap is_digit (sym ey) ∙ n) in
        let w : v ≡ number 10 0 (list_take_while is_digit u) = ev ∙ (ap digit ex ∙ sym (ap (number 10 0) z ∙ lone_value (get_or u 0 0))) in
        integer_value false b u u ahead refl (Some (v, 1)) (w, (sym (ap length z), digit_fits x v d ev)) refl (b + 1) (omega arith) ∙ no_second_x (sym et ∙ e)

-- signed numbers
largest_fits : (m : Bool) → largest m ≤ u64_max
unfolding largest
largest_fits true = omega arith
largest_fits false = omega arith

module _ (m : Bool) (b : ℕ) where
  alone : (r : List ℕ) → is_digit (get_or r 0 0) ≡ false → fail b ≡ after_sign m b r
  unfolding after_sign
  alone [] e = refl
  alone (x ∷ r) e = rw (e, after_sign)

  sign_as : (r : List ℕ) → is_digit (get_or r 0 0) ≡ true
      → after_sign m b r ≡ in_range m b (number 10 0 (list_take_while is_digit r)) (b + (1 + length (list_take_while is_digit r))) (list_drop_while is_digit r)
  unfolding after_sign
  sign_as [] e = absurd (false≢true (sym digit_none ∙ e))
  sign_as (x ∷ r) e =
      let z : 1 + length (list_take_while is_digit (x ∷ r)) ≡ suc (length (list_take_while is_digit (x ∷ r))) = omega arith in
      rw (z, e, after_sign)

  beyond : (r : List ℕ) → is_digit (get_or r 0 0) ≡ true → largest m < number 10 0 (list_take_while is_digit r) → fail b ≡ after_sign m b r
  unfolding in_range
  beyond r q lt = sym (sign_as r q ∙ rw (lt-leb _ _ lt, in_range))

  module _ (u r : List ℕ) (er : r ≡ drop 1 u) where
    pub sign_alone : is_digit (get_or r 0 0) ≡ false → fail b ≡ after_sign m b (drop 1 u)
    sign_alone e = rw (← er) (alone r e)

    module _ (some : is_digit (get_or r 0 0) ≡ true) (d : Option (ℕ × ℕ)) (a : digits_are false r d) where
      pub signed_over : d ≡ None → fail b ≡ after_sign m b (drop 1 u)
      signed_over e = rw (← er) (beyond r some (omega (arith, overflows false r d a e, largest_fits m)))

      module _ {v n : ℕ} (e : d ≡ Some (v, n)) (l : ℕ) (el : l ≡ largest m) where
        pub signed_beyond : l < v → fail b ≡ after_sign m b (drop 1 u)
        signed_beyond lt = rw (← er) (beyond r some (omega (arith, (counted false r d a e).0)))

        pub signed_value : v ≤ l → ok (signed m v) (b + (1 + n)) (drop (b + (1 + n) - b) u) ≡ after_sign m b (drop 1 u)
        unfolding in_range
        signed_value le =
            let q = counted false r d a e in
            rw (run_after false 1 b u r er v n q, ← er) (sym (sign_as r some ∙ rw (← q.0, ← q.1.0) (rw (le-leb v (largest m) (omega arith), in_range))))

-- the sign
abbrev sign : Bool → ℕ
sign true = minus
sign false = plus

pub sign_inside : (m : Bool) (u : List ℕ) → get_or u 0 0 ≡ sign m → 0 < length u
sign_inside true u e = byte_inside u 0 λ z. omega arith
sign_inside false u e = byte_inside u 0 λ z. omega arith

pub signed_at : (m : Bool) (b : ℕ) (u : List ℕ) → get_or u 0 0 ≡ sign m → after_sign m b (drop 1 u) ≡ signed_integer b u
unfolding signed_integer
signed_at true b [] e = absurd (omega arith)
signed_at true b (x ∷ u) e = rw (eq-eqb x minus e, signed_integer)
signed_at false b [] e = absurd (omega arith)
signed_at false b (x ∷ u) e = let n : x ≡ minus → ⊥ = λ y. omega arith in rw (ne_eqb x minus n, eq-eqb x plus e, signed_integer)

pub signed_no : (b : ℕ) (u : List ℕ) → (get_or u 0 0 ≡ minus → ⊥) → (get_or u 0 0 ≡ plus → ⊥) → fail b ≡ signed_integer b u
unfolding signed_integer
signed_no b [] p q = refl
signed_no b (x ∷ u) p q = rw (ne_eqb x minus p, ne_eqb x plus q, signed_integer)
