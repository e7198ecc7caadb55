use mathlib.Core.Path.{sym, ◌∙◌}
use native.Mathlib.Omega.{arith}
use Rattle.lexing.specs.answers.{doc_of}
use Rattle.lexing.proofs.blanks.Laws.{turn_other, turn_done, turn_white, turn_plain, turn_doc, white_fits, plain_fits, doc_fits}
use Rattle.lexing.proofs.blanks.one_blank.Goals as goal

pub returns-then-peek-ne47 : goal.returns-then-peek-ne47
returns-then-peek-ne47 c = turn_other _ _ _ _ c.rest_at-rest.ensures (doc_of c.args.b.doc) c.requires.base_value _ c.peek.ensures c.if-peek-ne47.true

pub comment_group-requires : goal.comment_group-requires
comment_group-requires c = record { part_bound = omega (arith, c.rest_at-rest.ensures.size); part_value = sym c.peek.ensures ∙ c.if-peek-ne47.false }

pub overflow_add-result : goal.overflow_add-result
overflow_add-result c = omega (arith, white_fits c.args.base c.args.part.now _ _ c.rest_at-rest.ensures _ c.in_ok-n.ensures _ c.in-White.is)

pub overflow_add-result-in-Plain : goal.overflow_add-result-in-Plain
overflow_add-result-in-Plain c = omega (arith, plain_fits c.args.base c.args.part.now _ _ c.rest_at-rest.ensures _ c.in_ok-n.ensures _ c.in-Plain.is)

pub overflow_add-result-in-DocComment : goal.overflow_add-result-in-DocComment
overflow_add-result-in-DocComment c = omega (arith, doc_fits c.args.base c.args.part.now _ _ c.rest_at-rest.ensures _ c.in_ok-n.ensures _ c.in-DocComment.is)

pub overflow_add-result-in-DocComment-2 : goal.overflow_add-result-in-DocComment-2
overflow_add-result-in-DocComment-2 c = omega (arith, doc_fits c.args.base c.args.part.now _ _ c.rest_at-rest.ensures _ c.in_ok-n.ensures _ c.in-DocComment.is)

pub overflow_add-result-in-DocComment-3 : goal.overflow_add-result-in-DocComment-3
overflow_add-result-in-DocComment-3 c = omega (arith, doc_fits c.args.base c.args.part.now _ _ c.rest_at-rest.ensures _ c.in_ok-n.ensures _ c.in-DocComment.is)

pub returns-in_err-n : goal.returns-in_err-n
returns-in_err-n c = rw c.from_residual.ensures (turn_done _ _ _ _ c.rest_at-rest.ensures (doc_of c.args.b.doc) c.in_err-n.ensures)

pub returns-in-White : goal.returns-in-White
returns-in-White c = turn_white _ _ _ _ c.rest_at-rest.ensures _ c.in_ok-n.ensures (doc_of c.args.b.doc) _ c.in-White.is

pub returns-in-Plain : goal.returns-in-Plain
returns-in-Plain c = turn_plain _ _ _ _ c.rest_at-rest.ensures _ c.in_ok-n.ensures (doc_of c.args.b.doc) _ c.in-Plain.is

pub returns-in-DocComment : goal.returns-in-DocComment
returns-in-DocComment c = turn_doc _ _ _ _ c.rest_at-rest.ensures _ c.in_ok-n.ensures (doc_of c.args.b.doc) _ c.in-DocComment.is
