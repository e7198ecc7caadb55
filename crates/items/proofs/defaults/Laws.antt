-- Default values: one law for each way through a reader.
use Rattle.lexing.specs.declared.answers.LostBy.TheVariants.{Fail, Stop}
use Rattle.std.specs.Prelude.{Ok, Err}
use mathlib.Core.Path.{◌≡◌, refl, sym, ap, ◌∙◌, subst}
use mathlib.Core.List.{List}
use mathlib.Core.Bool.{Bool, true, false}
use mathlib.Core.Option.{Option, none, some}
use Prim.Native.Nat.{ℕ, zero, suc, ◌+◌, ◌-◌, ◌≤◌, ◌<◌}
use native.Mathlib.Omega.{arith}
use lib.ListN.{drop}
use Rattle.lexing.specs.reply.{Reply, ok, fail, Parser, ◌>>◌, opt}
use Rattle.lexing.specs.integers.{signed, positive_integer, signed_integer}
use Rattle.lexing.specs.blanks.{whitespace1}
use Rattle.lexing.specs.strings.{span, default_string}
use Rattle.lexing.specs.answers.{lost_reply, number_of, Rest, number_reply, signed_of, signed_reply, span_to, string_reply, Read, Lost}
use Rattle.lexing.specs.declared.integers.SignedParts.{SignedParts}
use Rattle.lexing.proofs.Onward.{Onward}
use Rattle.lexing.proofs.Locality.{chain_opt, chain_then}
use Rattle.lexing.proofs.TokenLocality.{whitespace1_chain}
use Rattle.lexing.proofs.Slicing.{walks}
use Rattle.items.specs.clusters.{mapped}
use Rattle.items.specs.endpoints.{Default as DefaultOf, number, signed_number, truth, text, value_tries, default_attribute_value}
use Rattle.items.specs.records.{twos_complement, default_number}
use Rattle.items.specs.inner.defaults.{ValueTo, DefaultIn, optional_value, default_of, OptionalTo}
use Rattle.items.specs.declared.defaults.DefaultValue.{DefaultValue}
use Rattle.items.specs.declared.defaults.DefaultValue.TheVariants.{Absent, Number as Num, Signed as SignedValue, Truth, Text}
use Rattle.items.proofs.Locality.{value_tries_local, default_attribute_value_local}
use Rattle.items.proofs.Mapped.{value_as, TookAs, took_as, lost_as, mapped_ok, mapped_not}
use Rattle.lexing.proofs.AnswerLaws.{last_lost}
use Rattle.lexing.proofs.answers.Laws.{opt_ok, opt_fail, opt_stop}
use Rattle.items.proofs.Choice.{Past}
use Rattle.lexing.proofs.TokenPlaces.{integer_place, signed_place, default_string_place}

pub values_on : Onward value_tries
values_on = walks value_tries_local.on_chain

pub default_on : Onward default_attribute_value
default_on = walks default_attribute_value_local.on_chain

pub optional_on : Onward (opt (whitespace1 >> default_attribute_value))
optional_on = walks (chain_opt (chain_then whitespace1_chain default_attribute_value_local.on_chain))

-- the tries of a default's value
module _ (b : ℕ) (u : List ℕ) where
  pub number_try : {v c : ℕ} → number_reply (Ok (v, c)) b u ≡ positive_integer b u → ok (number v) c (drop (c - b) u) ≡ mapped positive_integer number b u
  number_try {v} {c} h = mapped_ok number positive_integer b u v c (drop (c - b) u) refl h

  pub number_lost : (l : Lost) → number_reply (Err l) b u ≡ positive_integer b u → lost_reply l ≡ mapped positive_integer number b u
  number_lost l h = mapped_not number positive_integer b u l h

  pub number_not : {p : ℕ} → number_reply (Err (Fail p)) b u ≡ positive_integer b u → fail b ≡ mapped positive_integer number b u
  number_not {p} h = let y : p ≡ b = rw (← h) at (integer_place b u) in mapped_not number positive_integer b u (Fail b) (rw y at h)

  pub signed_try : {s : SignedParts} {c : ℕ} → signed_reply (Ok (s, c)) b u ≡ signed_integer b u → ok (signed_number (signed_of s)) c (drop (c - b) u) ≡ mapped signed_integer signed_number b u
  signed_try {s} {c} h = mapped_ok signed_number signed_integer b u (signed_of s) c (drop (c - b) u) refl h

  pub signed_not : (l : Lost) → signed_reply (Err l) b u ≡ signed_integer b u → fail b ≡ mapped signed_integer signed_number b u
  signed_not (Fail p) h = let y : p ≡ b = rw (← h) at (signed_place b u) in mapped_not signed_number signed_integer b u (Fail b) (rw y at h)
  signed_not (Stop n p) h = absurd (rw (← h) at (signed_place b u))

  module _ {c : ℕ} (h : string_reply (Ok c) b u ≡ default_string b u) where
    -- both quotes were read
    pub text_long : suc b < c
    text_long = rw (← h) at (default_string_place b u)

    pub text_try : ok (text (span (b + 1) (c - 1 - (b + 1)))) c (drop (c - b) u) ≡ mapped default_string text b u
    text_try = let z : b + 1 ≡ suc b = omega arith in rw z (mapped_ok text default_string b u (span_to b c) c (drop (c - b) u) refl h)

  pub text_not : (l : Lost) → string_reply (Err l) b u ≡ default_string b u → lost_reply l ≡ mapped default_string text b u
  text_not l h = mapped_not text default_string b u l h

  pub text_past : (l : Lost) → string_reply (Err l) b u ≡ default_string b u → Past {A = DefaultOf} b (lost_reply l)
  text_past (Fail p) h = rw (← h) at (default_string_place b u)
  text_past (Stop n p) h = tt

-- the two ways in which a default that is present answers
module _ (m : Parser DefaultOf) {b : ℕ} {u : List ℕ} where
  pub value_is : {d : DefaultValue} {v : DefaultOf} {c : ℕ} → some v ≡ default_of d → ok v c (drop (c - b) u) ≡ m b u → DefaultIn d c → ValueTo m (Ok (d, c)) b u
  value_is {d} {v} {c} e h w = record { reads = mapped_ok some m b u v c (drop (c - b) u) e h; within = w }

  pub value_not : (l : Lost) → lost_reply l ≡ m b u → ValueTo m (Err l) b u
  value_not l h = record { reads = mapped_not some m b u l h; within = tt }

-- one that may be absent
optional_to : (m : Parser DefaultOf) (a : Read DefaultValue) (b : ℕ) (u : List ℕ) → ValueTo m a b u → OptionalTo m (optional_value a b) b u
optional_to m (Ok (d, c)) b u h =
    let x = value_as some m b u (default_of d) c (drop (c - b) u) h.reads in
    record { reads = ap (λ (o : Option DefaultOf). ok o c (drop (c - b) u)) (sym x.1.0) ∙ opt_ok m b u x.0 c (drop (c - b) u) x.1.1; within = h.within }
optional_to m (Err (Fail p)) b u h = let z : b - b ≡ 0 = omega arith in record { reads = rw z (opt_fail m b u p (lost_as some m b u (Fail p) h.reads)); within = tt }
optional_to m (Err (Stop n p)) b u h = record { reads = opt_stop m b u (number_of n) p (lost_as some m b u (Stop n p) h.reads); within = tt }

pub optional_is : (m : Parser DefaultOf) (a : Read DefaultValue) (x : Read DefaultValue) (b : ℕ) (u : List ℕ) → x ≡ optional_value a b → ValueTo m a b u → OptionalTo m x b u
optional_is m a x b u e h = subst (λ (y : Read DefaultValue). OptionalTo m y b u) (sym e) (optional_to m a b u h)

-- a default as the end of a sequence k
pub value_end : {m : Parser DefaultOf} (w : Onward m) (k : Parser DefaultOf) {b n : ℕ} {u r : List ℕ} (a : Read DefaultValue) → Rest b u n r → ((X : Reply DefaultOf) → X ≡ m n (drop (n - b) u) → X ≡ k b u) → ValueTo m a n r → ValueTo k a b u
value_end {m} w k {b} {n} {u} {r} (Ok (d, c)) q f h =
    let s : TookAs some m b u n (default_of d) c = took_as w q h.reads in
    record { reads = mapped_ok some k b u s.value c (drop (c - b) u) s.is (f _ (sym s.step.goes)); within = h.within }
value_end {m} w k {b} {n} {u} {r} (Err l) q f h = value_not k l (f _ (last_lost m l q (lost_as some m n r l h.reads)))

-- the text goes on after a default
pub default_within : (d : DefaultValue) (c e : ℕ) → DefaultIn d c → c ≤ e → DefaultIn d e
default_within Absent c e h k = tt
default_within (Num n) c e h k = tt
default_within (SignedValue s) c e h k = tt
default_within (Truth x) c e h k = tt
default_within (Text s) c e h k = omega (arith, h, k)

pub number_small : (d : Option DefaultOf) → default_number d < 5
unfolding default_number
number_small none = omega arith
number_small (some (number n)) = omega arith
number_small (some (signed_number z)) = omega arith
number_small (some (truth t)) = omega arith
number_small (some (text s)) = omega arith

-- two's complement
pub complement_zero : (m : Bool) → twos_complement (signed m 0) ≡ 0
unfolding twos_complement
complement_zero true = refl
complement_zero false = refl

pub complement_negative : (v : ℕ) → 0 < v → twos_complement (signed true v) ≡ 18446744073709551615 - (v - 1)
unfolding twos_complement
complement_negative zero h = absurd (omega arith)
complement_negative (suc v) h = omega arith

pub complement_positive : (v : ℕ) → twos_complement (signed false v) ≡ v
unfolding twos_complement
complement_positive v = refl
