use Rattle.lexing.proofs.Losses.{passed_on}
use Rattle.matter_idl.proofs.reading.Judged.{verdict_ill, verdict_lost, verdict_read}
use Rattle.matter_idl.proofs.reading.verdict_at.Goals as goal

pub returns-in-Some : goal.returns-in-Some
returns-in-Some c = verdict_ill c.args.base c.args.part.now _ c.in-Some.ensures

pub count_items-requires : goal.count_items-requires
count_items-requires c = c.requires

pub returns-in_err-n : goal.returns-in_err-n
returns-in_err-n c = rw (passed_on c.from_residual.ensures) (verdict_lost c.args.base c.args.part.now c.in_default.ensures _ c.in_err-n.ensures)

pub returns : goal.returns
returns c = verdict_read c.args.base c.args.part.now c.in_default.ensures _ _ c.in_ok-n.ensures
