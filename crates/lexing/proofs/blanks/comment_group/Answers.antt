use Rattle.lexing.specs.bytes.{in_line}
use Rattle.std.proofs.Common.{rules}
use mathlib.Core.Path.{sym, ◌∙◌}
use native.Mathlib.Omega.{arith}
use Rattle.lexing.proofs.blanks.Laws.{group_line, group_bare, line_fits, group_other, group_open, group_short, group_doc, group_plain, closed_fits}
use Rattle.lexing.proofs.blanks.comment_group.Goals as goal

pub overflow_add-result : goal.overflow_add-result
overflow_add-result c = omega (arith, line_fits c.args.base c.args.part.now c.requires.part_value _ c.after.ensures (sym c.peek-y.ensures ∙ c.if-y-eq47.true) _ (c.run_length-n.ensures in_line (λ x r p. search rules)))

pub returns-then-n-gt0 : goal.returns-then-n-gt0
returns-then-n-gt0 c = group_line _ _ c.requires.part_value _ c.after.ensures (sym c.peek-y.ensures ∙ c.if-y-eq47.true) _ (c.run_length-n.ensures in_line (λ x r p. search rules)) c.if-n-gt0.true

pub returns-then-y-eq47 : goal.returns-then-y-eq47
returns-then-y-eq47 c = group_bare _ _ c.requires.part_value _ c.after.ensures (sym c.peek-y.ensures ∙ c.if-y-eq47.true) _ (c.run_length-n.ensures in_line (λ x r p. search rules)) c.if-n-gt0.false

pub returns-then-y-ne42 : goal.returns-then-y-ne42
returns-then-y-ne42 c = group_other _ _ c.requires.part_value _ c.peek-y.ensures c.if-y-eq47.false c.if-y-ne42.true

pub returns-in_err-n : goal.returns-in_err-n
returns-in_err-n c = rw c.from_residual.ensures (group_open _ _ c.requires.part_value _ c.after-2.ensures (sym c.peek-y.ensures ∙ c.if-y-ne42.false) c.in_err-n.ensures)

pub returns-then-n-eq0 : goal.returns-then-n-eq0
returns-then-n-eq0 c = group_short _ _ c.requires.part_value _ c.after-2.ensures (sym c.peek-y.ensures ∙ c.if-y-ne42.false) _ c.in_ok-n.ensures c.if-n-eq0.true

pub returns-then-peek-eq42 : goal.returns-then-peek-eq42
returns-then-peek-eq42 c = group_doc _ _ c.requires.part_value _ c.after-2.ensures (sym c.peek-y.ensures ∙ c.if-y-ne42.false) _ c.in_ok-n.ensures _ c.peek.ensures c.if-n-eq0.false c.if-peek-eq42.true

pub overflow_add-result-2 : goal.overflow_add-result-2
overflow_add-result-2 c = omega (arith, closed_fits c.args.base c.args.part.now c.requires.part_value _ c.after-2.ensures (sym c.peek-y.ensures ∙ c.if-y-ne42.false) _ c.in_ok-n.ensures)

pub returns : goal.returns
returns c = group_plain _ _ c.requires.part_value _ c.after-2.ensures (sym c.peek-y.ensures ∙ c.if-y-ne42.false) _ c.in_ok-n.ensures _ c.peek.ensures c.if-peek-eq42.false
