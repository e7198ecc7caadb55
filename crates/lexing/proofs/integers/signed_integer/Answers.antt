use mathlib.Core.Path.{sym, ◌∙◌}
use mathlib.Core.Bool.{true, false}
use Rattle.lexing.proofs.integers.Laws.{sign_inside, signed_at, signed_no}
use Rattle.lexing.proofs.integers.signed_integer.Goals as goal

pub after_sign-requires : goal.after_sign-requires
after_sign-requires c = record { part_bound = c.requires; part_nonzero = sign_inside true c.args.part.now (sym c.peek-x.ensures ∙ c.if-x-eq45.true) }

pub returns-then-x-eq45 : goal.returns-then-x-eq45
returns-then-x-eq45 c = c.after_sign.ensures ∙ signed_at true _ _ (sym c.peek-x.ensures ∙ c.if-x-eq45.true)

pub after_sign-requires-then-x-eq43 : goal.after_sign-requires-then-x-eq43
after_sign-requires-then-x-eq43 c = record { part_bound = c.requires; part_nonzero = sign_inside false c.args.part.now (sym c.peek-x.ensures ∙ c.if-x-eq43.true) }

pub returns-then-x-eq43 : goal.returns-then-x-eq43
returns-then-x-eq43 c = c.after_sign-then-x-eq43.ensures ∙ signed_at false _ _ (sym c.peek-x.ensures ∙ c.if-x-eq43.true)

pub returns : goal.returns
returns c = signed_no _ _ (λ e. c.if-x-eq45.false (c.peek-x.ensures ∙ e)) (λ e. c.if-x-eq43.false (c.peek-x.ensures ∙ e))
