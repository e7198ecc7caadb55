-- Optional parts whose value is dropped.
use mathlib.Core.Path.{◌≡◌, sym}
use mathlib.Core.Option.{none, some}
use mathlib.Core.List.{List}
use Prim.Native.Nat.{ℕ, ◌-◌}
use native.Mathlib.Omega.{arith}
use lib.ListN.{drop}
use Rattle.lexing.specs.reply.{ok, fail, stop, Parser, opt}
use Rattle.lexing.specs.answers.{Rest, number_of, Skips, optional_step}
use Rattle.std.specs.Prelude.{Ok, Err}
use Rattle.lexing.specs.answers.{Step}
use Rattle.lexing.specs.declared.answers.LostBy.TheVariants.{Fail, Stop}
use Rattle.lexing.proofs.Onward.{Onward}
use Rattle.lexing.proofs.Slicing.{Took, took}

pub opt_ok : {A : Type 0} (m : Parser A) (b : ℕ) (u : List ℕ) (a : A) (c : ℕ) (r : List ℕ) → ok a c r ≡ m b u → ok (some a) c r ≡ opt m b u
unfolding opt
opt_ok m b u a c r e = rw (sym e, opt)

pub opt_fail : {A : Type 0} (m : Parser A) (b : ℕ) (u : List ℕ) (p : ℕ) → fail p ≡ m b u → ok none b u ≡ opt m b u
unfolding opt
opt_fail m b u p e = rw (sym e, opt)

pub opt_stop : {A : Type 0} (m : Parser A) (b : ℕ) (u : List ℕ) (n p : ℕ) → stop n p ≡ m b u → stop n p ≡ opt m b u
unfolding opt
opt_stop m b u n p e = rw (sym e, opt)

-- the answer of an optional part, where the part's answer is known
pub optional_skips : {A : Type 0} {m : Parser A} (a : Step) (b : ℕ) (u : List ℕ) → Skips m a b u → Skips (opt m) (optional_step a b) b u
optional_skips {A} {m} (Ok c) b u h = record { value = some h.value; reads = opt_ok m b u h.value c (drop (c - b) u) h.reads }
optional_skips {A} {m} (Err (Fail p)) b u h = let z : b - b ≡ 0 = omega arith in record { value = none; reads = rw z (opt_fail m b u p h.reads) }
optional_skips {A} {m} (Err (Stop n p)) b u h = record { value = none; reads = opt_stop m b u (number_of n) p h.reads }

-- a step whose value is dropped, in a sequence
pub skip_took : {A : Type 0} {m : Parser A} (w : Onward m) {b n : ℕ} {u r : List ℕ} {c : ℕ} → Rest b u n r → (h : Skips m (Ok c) n r) → Took m b u n h.value c
skip_took w q h = took w q h.reads
