use Rattle.lexing.specs.bytes.{is_space}
use Rattle.std.proofs.Common.{rules}
use mathlib.Core.Path.{sym, ◌∙◌}
use Rattle.lexing.proofs.blanks.Laws.{group_white, group_none}
use Rattle.lexing.proofs.blanks.whitespace_group.Goals as goal

pub comment_group-requires : goal.comment_group-requires
comment_group-requires c = record { part_bound = c.requires; part_value = sym c.peek.ensures ∙ c.if-peek-eq47.true }

pub returns-then-peek-eq47 : goal.returns-then-peek-eq47
returns-then-peek-eq47 c = c.comment_group.ensures

pub returns-then-n-gt0 : goal.returns-then-n-gt0
returns-then-n-gt0 c = group_white _ _ _ (c.run_length-n.ensures is_space (λ x r p. search rules)) c.if-n-gt0.true

pub returns : goal.returns
returns c = group_none _ _ _ (c.run_length-n.ensures is_space (λ x r p. search rules)) c.if-n-gt0.false _ c.peek.ensures c.if-peek-eq47.false
