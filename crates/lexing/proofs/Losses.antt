-- What is lost is a failure or what ends all reading.
use mathlib.Core.Path.{◌≡◌, ap, ◌∙◌, subst}
use Prim.Native.Nat.{ℕ}
use Rattle.std.specs.Prelude.{Option, None, Result, Ok, Err}
use Rattle.std.specs.Option.{ok_or}
use Rattle.std.specs.Result.{IsErr, IsErrAnd}
use Rattle.std.proofs.lemmas.Result.{err_from_is_err_and}
use Rattle.lexing.specs.declared.answers.Refusal.{Refusal}
use Rattle.lexing.specs.declared.answers.LostBy.TheVariants.{Fail, Stop}
use Rattle.lexing.specs.answers.{Lost}

pub by_lost : (P : Lost → Type 0) → ((p : ℕ) → P (Fail p)) → ((n : Refusal) (p : ℕ) → P (Stop n p)) → (l : Lost) → P l
by_lost P f s (Fail p) = f p
by_lost P f s (Stop n p) = s n p

-- what the exit of a `?` returns
pub passed_on : {T E : Type 0} {l : E} {r : Result T E} → IsErr r × IsErrAnd r (λ e. e ≡ l) → r ≡ Err l
passed_on {r = r} h = let p = err_from_is_err_and r h.1 in p.1 ∙ ap Err p.2

-- what the exit of an `ok_or` with a `?` returns
abbrev error_or : {T E : Type 0} → E → Result T E → E
error_or d (Ok x) = d
error_or d (Err e) = e

pub refused_with : {T E : Type 0} {o : Option T} {l e : E} → o ≡ None → Err l ≡ ok_or o e → l ≡ e
refused_with {l = l} {e} n v = ap (error_or l) (subst (λ x. Err l ≡ ok_or x e) n v)
