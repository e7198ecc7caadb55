use borrow.Author.Tests.{le-leb, lt-leb}
use native.Mathlib.Omega.{arith}
use lib.ListN.{length}
use Rattle.matter_idl.proofs.interface.Laws.{too_long, value_fits, told_result, told_left}
use Rattle.matter_idl.proofs.interface.Outcomes.{refused_result, refused_left}
use Rattle.matter_idl.proofs.interface.matter_idl_unescape.Goals as goal

pub returns-then-part-gt-VALUE_LIMIT : goal.returns-then-part-gt-VALUE_LIMIT
returns-then-part-gt-VALUE_LIMIT c = record { answer_value = refused_result (too_long c.args.part.now (length c.args.output.now) (lt-leb _ _ c.if-part-gt-VALUE_LIMIT.true)) c.refused.ensures; output_after = refused_left (too_long c.args.part.now (length c.args.output.now) (lt-leb _ _ c.if-part-gt-VALUE_LIMIT.true)) c.args.output.now }

pub packed-requires : goal.packed-requires
packed-requires c = record { number_bound = omega arith; value_le_value_limit = value_fits c.args.part.now (length c.args.output.now) (le-leb _ _ c.if-part-gt-VALUE_LIMIT.false) c.in-Ok.ensures.result_value c.if-part-gt-VALUE_LIMIT.false }

pub refused-requires-in-Err-Fault : goal.refused-requires-in-Err-Fault
refused-requires-in-Err-Fault c = value_fits c.args.part.now (length c.args.output.now) (le-leb _ _ c.if-part-gt-VALUE_LIMIT.false) (rw c.in-Err-Fault.field-0-is at c.in-Err-Fault.ensures).result_value c.if-part-gt-VALUE_LIMIT.false

pub refused-requires-in-Err-Short : goal.refused-requires-in-Err-Short
refused-requires-in-Err-Short c = value_fits c.args.part.now (length c.args.output.now) (le-leb _ _ c.if-part-gt-VALUE_LIMIT.false) (rw c.in-Err-Short.field-0-is at c.in-Err-Short.ensures).result_value c.if-part-gt-VALUE_LIMIT.false

pub returns-in-Ok : goal.returns-in-Ok
returns-in-Ok c = record { answer_value = told_result c.args.part.now (length c.args.output.now) (le-leb _ _ c.if-part-gt-VALUE_LIMIT.false) c.in-Ok.ensures.result_value c.packed.ensures; output_after = told_left c.args.part.now (length c.args.output.now) (le-leb _ _ c.if-part-gt-VALUE_LIMIT.false) c.args.output.now c.unescape.ensures.output_after }

pub returns-in-Err-Fault : goal.returns-in-Err-Fault
returns-in-Err-Fault c = record { answer_value = told_result c.args.part.now (length c.args.output.now) (le-leb _ _ c.if-part-gt-VALUE_LIMIT.false) (rw c.in-Err-Fault.field-0-is at c.in-Err-Fault.ensures).result_value c.refused-in-Err-Fault.ensures; output_after = told_left c.args.part.now (length c.args.output.now) (le-leb _ _ c.if-part-gt-VALUE_LIMIT.false) c.args.output.now c.unescape.ensures.output_after }

pub returns-in-Err-Short : goal.returns-in-Err-Short
returns-in-Err-Short c = record { answer_value = told_result c.args.part.now (length c.args.output.now) (le-leb _ _ c.if-part-gt-VALUE_LIMIT.false) (rw c.in-Err-Short.field-0-is at c.in-Err-Short.ensures).result_value c.refused-in-Err-Short.ensures; output_after = told_left c.args.part.now (length c.args.output.now) (le-leb _ _ c.if-part-gt-VALUE_LIMIT.false) c.args.output.now c.unescape.ensures.output_after }
