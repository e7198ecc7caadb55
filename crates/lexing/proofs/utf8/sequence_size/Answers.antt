use mathlib.Core.Path.{◌∙◌}
use native.Mathlib.Omega.{arith}
use Rattle.lexing.specs.utf8.{table}
use Rattle.lexing.specs.inner.utf8.{later}
use Rattle.lexing.proofs.utf8.Laws.{this_row, next_row, no_row, sequence_by, sequence_none}
use Rattle.lexing.proofs.utf8.sequence_size.Goals as goal

pub returns-in-194-to-223 : goal.returns-in-194-to-223
unfolding table later
returns-in-194-to-223 c = c.size_by-in-194-to-223.ensures ∙ sequence_by c.args.rest.now _ c.requires.0 (next_row _ _ _ _ _ (λ a b. omega arith) (this_row _ _ _ _ _ (omega arith) (omega arith)))

pub returns-in-224 : goal.returns-in-224
unfolding table later
returns-in-224 c = c.size_by.ensures ∙ sequence_by c.args.rest.now _ c.requires.0 (next_row _ _ _ _ _ (λ a b. omega arith) (next_row _ _ _ _ _ (λ a b. omega arith) (this_row _ _ _ _ _ (omega arith) (omega arith))))

pub returns-in-225-to-236 : goal.returns-in-225-to-236
unfolding table later
returns-in-225-to-236 c = c.size_by-in-225-to-236.ensures ∙ sequence_by c.args.rest.now _ c.requires.0 (next_row _ _ _ _ _ (λ a b. omega arith) (next_row _ _ _ _ _ (λ a b. omega arith) (next_row _ _ _ _ _ (λ a b. omega arith) (this_row _ _ _ _ _ (omega arith) (omega arith)))))

pub returns-in-237 : goal.returns-in-237
unfolding table later
returns-in-237 c = c.size_by-in-237.ensures ∙ sequence_by c.args.rest.now _ c.requires.0 (next_row _ _ _ _ _ (λ a b. omega arith) (next_row _ _ _ _ _ (λ a b. omega arith) (next_row _ _ _ _ _ (λ a b. omega arith) (next_row _ _ _ _ _ (λ a b. omega arith) (this_row _ _ _ _ _ (omega arith) (omega arith))))))

pub returns-in-238-to-239 : goal.returns-in-238-to-239
unfolding table later
returns-in-238-to-239 c = c.size_by-in-238-to-239.ensures ∙ sequence_by c.args.rest.now _ c.requires.0 (next_row _ _ _ _ _ (λ a b. omega arith) (next_row _ _ _ _ _ (λ a b. omega arith) (next_row _ _ _ _ _ (λ a b. omega arith) (next_row _ _ _ _ _ (λ a b. omega arith) (next_row _ _ _ _ _ (λ a b. omega arith) (this_row _ _ _ _ _ (omega arith) (omega arith)))))))

pub returns-in-240 : goal.returns-in-240
unfolding table later
returns-in-240 c = c.size_by-in-240.ensures ∙ sequence_by c.args.rest.now _ c.requires.0 (next_row _ _ _ _ _ (λ a b. omega arith) (next_row _ _ _ _ _ (λ a b. omega arith) (next_row _ _ _ _ _ (λ a b. omega arith) (next_row _ _ _ _ _ (λ a b. omega arith) (next_row _ _ _ _ _ (λ a b. omega arith) (next_row _ _ _ _ _ (λ a b. omega arith) (this_row _ _ _ _ _ (omega arith) (omega arith))))))))

pub returns-in-241-to-243 : goal.returns-in-241-to-243
unfolding table later
returns-in-241-to-243 c = c.size_by-in-241-to-243.ensures ∙ sequence_by c.args.rest.now _ c.requires.0 (next_row _ _ _ _ _ (λ a b. omega arith) (next_row _ _ _ _ _ (λ a b. omega arith) (next_row _ _ _ _ _ (λ a b. omega arith) (next_row _ _ _ _ _ (λ a b. omega arith) (next_row _ _ _ _ _ (λ a b. omega arith) (next_row _ _ _ _ _ (λ a b. omega arith) (next_row _ _ _ _ _ (λ a b. omega arith) (this_row _ _ _ _ _ (omega arith) (omega arith)))))))))

pub returns-in-244 : goal.returns-in-244
unfolding table later
returns-in-244 c = c.size_by-in-244.ensures ∙ sequence_by c.args.rest.now _ c.requires.0 (next_row _ _ _ _ _ (λ a b. omega arith) (next_row _ _ _ _ _ (λ a b. omega arith) (next_row _ _ _ _ _ (λ a b. omega arith) (next_row _ _ _ _ _ (λ a b. omega arith) (next_row _ _ _ _ _ (λ a b. omega arith) (next_row _ _ _ _ _ (λ a b. omega arith) (next_row _ _ _ _ _ (λ a b. omega arith) (next_row _ _ _ _ _ (λ a b. omega arith) (this_row _ _ _ _ _ (omega arith) (omega arith))))))))))

pub returns-in_default : goal.returns-in_default
unfolding table
returns-in_default c = sequence_none c.args.rest.now c.requires.0 (next_row _ _ _ _ _ (λ a b. omega arith) (next_row _ _ _ _ _ (λ a b. omega arith) (next_row _ _ _ _ _ (λ a b. omega arith) (next_row _ _ _ _ _ (λ a b. omega arith) (next_row _ _ _ _ _ (λ a b. omega arith) (next_row _ _ _ _ _ (λ a b. omega arith) (next_row _ _ _ _ _ (λ a b. omega arith) (next_row _ _ _ _ _ (λ a b. omega arith) (next_row _ _ _ _ _ (λ a b. omega arith) (no_row _))))))))))

pub returns-in_default-2 : goal.returns-in_default-2
unfolding table
returns-in_default-2 c = sequence_none c.args.rest.now c.requires.0 (next_row _ _ _ _ _ (λ a b. omega arith) (next_row _ _ _ _ _ (λ a b. omega arith) (next_row _ _ _ _ _ (λ a b. omega arith) (next_row _ _ _ _ _ (λ a b. omega arith) (next_row _ _ _ _ _ (λ a b. omega arith) (next_row _ _ _ _ _ (λ a b. omega arith) (next_row _ _ _ _ _ (λ a b. omega arith) (next_row _ _ _ _ _ (λ a b. omega arith) (next_row _ _ _ _ _ (λ a b. omega arith) (no_row _))))))))))
