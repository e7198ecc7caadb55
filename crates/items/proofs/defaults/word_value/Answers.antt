use Rattle.lexing.proofs.Losses.{passed_on}
use native.Mathlib.Omega.{arith}
use Rattle.lexing.specs.bytes.{ascii}
use mathlib.Core.Bool.{true, false}
use Rattle.lexing.proofs.Slicing.{or_here}
use Rattle.items.specs.endpoints.{truth, value_tries}
use Rattle.items.proofs.Keywords.{keyword_value, keyword_not}
use mathlib.Core.Path.{refl}
use Rattle.items.proofs.Choice.{or_past}
use Rattle.items.proofs.defaults.Laws.{value_is, value_not, text_try, text_long, text_not, text_past}
use Rattle.items.proofs.defaults.word_value.Goals as goal

pub returns-in-Ok : goal.returns-in-Ok
unfolding value_tries
returns-in-Ok c = value_is value_tries refl (or_past _ _ _ _ _ c.requires.no_number_at.unsigned tt (or_past _ _ _ _ _ c.requires.no_number_at.with_sign tt (or_here _ _ _ _ _ _ _ (keyword_value (ascii "true") (truth true) _ _ _ c.in-Ok.ensures)))) tt

pub returns-in-Ok-keyword : goal.returns-in-Ok-keyword
unfolding value_tries
returns-in-Ok-keyword c = value_is value_tries refl (or_past _ _ _ _ _ c.requires.no_number_at.unsigned tt (or_past _ _ _ _ _ c.requires.no_number_at.with_sign tt (or_past _ _ _ _ _ (keyword_not (ascii "true") (truth true) _ _ _ c.in_default.ensures) tt (or_here _ _ _ _ _ _ _ (keyword_value (ascii "false") (truth false) _ _ _ c.in-Ok-keyword.ensures))))) tt

pub returns-in_err-c : goal.returns-in_err-c
unfolding value_tries
returns-in_err-c c =
    let p = text_past _ _ _ c.in_err-c.ensures in
    rw (passed_on c.from_residual.ensures) (value_not value_tries _ (or_past _ _ _ _ _ c.requires.no_number_at.unsigned p (or_past _ _ _ _ _ c.requires.no_number_at.with_sign p (or_past _ _ _ _ _ (keyword_not (ascii "true") (truth true) _ _ _ c.in_default.ensures) p (or_past _ _ _ _ _ (keyword_not (ascii "false") (truth false) _ _ _ c.in_default-keyword.ensures) p (text_not _ _ _ c.in_err-c.ensures))))))

pub overflow_sub-length : goal.overflow_sub-length
overflow_sub-length c = omega (arith, text_long _ _ c.in_ok-c.ensures)

pub overflow_sub-length-2 : goal.overflow_sub-length-2
overflow_sub-length-2 c = omega (arith, text_long _ _ c.in_ok-c.ensures)

pub returns : goal.returns
unfolding value_tries
returns c = value_is value_tries refl (or_past _ _ _ _ _ c.requires.no_number_at.unsigned tt (or_past _ _ _ _ _ c.requires.no_number_at.with_sign tt (or_past _ _ _ _ _ (keyword_not (ascii "true") (truth true) _ _ _ c.in_default.ensures) tt (or_past _ _ _ _ _ (keyword_not (ascii "false") (truth false) _ _ _ c.in_default-keyword.ensures) tt (text_try _ _ c.in_ok-c.ensures))))) (omega (arith, text_long _ _ c.in_ok-c.ensures))
