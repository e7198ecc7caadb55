use Rattle.lexing.proofs.unescaping.Laws.{counting_start, counting_more, counting_fault, counting_end}
use mathlib.Core.Path.{◌≡◌}
use native.Mathlib.Omega.{arith}
use Rattle.std.proofs.lemmas.Result.{err_from_is_err_and}
use Rattle.lexing.proofs.unescaping.size_of.Goals as goal

pub loop-at-init : goal.loop-at-init
loop-at-init c = counting_start _

pub returns-in_err-next : goal.returns-in_err-next
returns-in_err-next c =
    let p = err_from_is_err_and c.from_residual.result c.from_residual.ensures.1 in
    let h = c.in_err-next.ensures in
    let k : c.in_err-next.field-0.0 ≡ c.loop-at.at = let v = rw h.ok_part at h.value in grind arith in
    rw (p.1, p.2, k) (counting_fault c.loop-at.invariant (rw h.ok_part at c.next_piece.ensures))

pub overflow_add-n : goal.overflow_add-n
overflow_add-n c = let n = counting_more c.loop-at.invariant (rw c.in_ok-next.ensures.ok_part at c.next_piece.ensures) in omega (arith, n.count, n.seen.few, n.seen.inside)

pub loop-at-preserved : goal.loop-at-preserved
loop-at-preserved c = counting_more c.loop-at.invariant (rw c.in_ok-next.ensures.ok_part at c.next_piece.ensures)

pub returns : goal.returns
returns c = counting_end c.loop-at.invariant c.loop-at-test.false
