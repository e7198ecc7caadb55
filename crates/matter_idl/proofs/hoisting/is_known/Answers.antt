use mathlib.Core.Path.{sym}
use Rattle.matter_idl.proofs.filter.Laws.{filtered_out}
use Rattle.matter_idl.proofs.hoisting.is_known.Goals as goal

pub returns-then-not-may_hold : goal.returns-then-not-may_hold
returns-then-not-may_hold c = λ x h. sym (filtered_out _ _ _ _ (λ a. (c.may_hold.ensures c.if-not-may_hold.true) (rw c.requires.h_value a)) h)
