use borrow.Author.Tests.{le-leb, lt-leb}
use native.Mathlib.Omega.{arith}
use lib.ListN.{length}
use Rattle.matter_idl.proofs.interface.Outcomes.{refused_result, refused_left, refused_outcome, size_now, short_outcome, written_outcome, read_left, written_result, written_left}
use Rattle.matter_idl.proofs.reading.Judged.{accepted_room}
use Rattle.matter_idl.proofs.reading.Marked.{front_none}
use Rattle.matter_idl.proofs.interface.matter_idl_read.Goals as goal

pub returns-then-catalogue-n : goal.returns-then-catalogue-n
returns-then-catalogue-n c = record { answer_value = refused_result (short_outcome c.args.text.now (length c.args.catalogue.now) c.in-Ok.ensures (lt-leb _ _ c.if-catalogue-n.true)) c.refused-then-catalogue-n.ensures; catalogue_after = refused_left (short_outcome c.args.text.now (length c.args.catalogue.now) c.in-Ok.ensures (lt-leb _ _ c.if-catalogue-n.true)) c.args.catalogue.now }

pub write_items-requires-clause-room : goal.write_items-requires-clause-room
write_items-requires-clause-room c = accepted_room c.in-Ok.ensures.whole (omega (arith, c.if-catalogue-n.false))

pub write_items-requires-clause-hoisted_front : goal.write_items-requires-clause-hoisted_front
write_items-requires-clause-hoisted_front c = (front_none c.args.text.now c.args.catalogue.now)

pub returns-in-Err : goal.returns-in-Err
returns-in-Err c = record { answer_value = refused_result (refused_outcome c.args.text.now (length c.args.catalogue.now) c.in-Err.ensures) c.refused.ensures; catalogue_after = refused_left (refused_outcome c.args.text.now (length c.args.catalogue.now) c.in-Err.ensures) c.args.catalogue.now }

pub returns-else-catalogue-n : goal.returns-else-catalogue-n
returns-else-catalogue-n c = record { answer_value = written_result (written_outcome c.args.text.now (length c.args.catalogue.now) c.in-Ok.ensures (le-leb _ _ c.if-catalogue-n.false)) (size_now c.args.text.now (length c.args.catalogue.now) c.in-Ok.ensures) c.packed.ensures; catalogue_after = written_left (written_outcome c.args.text.now (length c.args.catalogue.now) c.in-Ok.ensures (le-leb _ _ c.if-catalogue-n.false)) c.args.catalogue.now (read_left c.args.text.now (length c.args.catalogue.now) c.in-Ok.ensures c.write_items.ensures) }
