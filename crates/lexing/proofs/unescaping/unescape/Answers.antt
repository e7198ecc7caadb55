use Rattle.lexing.proofs.unescaping.Laws.{ends_fault, ends_short, may_write, ends_written}
use Rattle.lexing.proofs.unescaping.unescape.Goals as goal

pub write-requires : goal.write-requires
write-requires c = may_write _ c.args.output.now _ c.in-Ok.ensures c.if-output-n.false

pub returns-in-Err : goal.returns-in-Err
returns-in-Err c = let e = ends_fault _ c.args.output.now _ c.in-Err.ensures in record { result_value = e.0; output_after = e.1 }

pub returns-in-Ok : goal.returns-in-Ok
returns-in-Ok c = let e = ends_short _ c.args.output.now _ c.in-Ok.ensures c.if-output-n.true in record { result_value = e.0; output_after = e.1 }

pub returns-in-Ok-2 : goal.returns-in-Ok-2
returns-in-Ok-2 c = let e = ends_written _ c.args.output.now _ c.in-Ok.ensures c.if-output-n.false c.write.ensures in record { result_value = e.0; output_after = e.1 }
