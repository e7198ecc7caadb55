use native.Mathlib.Omega.{arith}
use Rattle.matter_idl.proofs.sections.Laws.{cutless_none, cutless_more}
use Rattle.matter_idl.proofs.sections.cut_64.Goals as goal

pub loop-j-init : goal.loop-j-init
loop-j-init c = cutless_none

pub loop-j-preserved : goal.loop-j-preserved
loop-j-preserved c = cutless_more c.loop-j.invariant c.is_cut-found.ensures

pub returns : goal.returns
returns c = record { each = λ e j h. c.loop-j.invariant.each e j (omega (arith, c.loop-j-test.false, h)) }
