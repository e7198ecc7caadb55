use Rattle.std.proofs.Common.{rules}
use Rattle.lexing.proofs.Losses.{passed_on}
use native.Mathlib.Omega.{arith}
use Rattle.lexing.proofs.strings.Laws.{piece_more, string_no, string_start, string_more, string_ends, string_lost}
use Rattle.lexing.proofs.strings.string_with.Goals as goal

pub returns-then-part-eq0 : goal.returns-then-part-eq0
returns-then-part-eq0 g c f h = string_no f _ _ λ l e. omega arith

pub returns-then-part-ne34 : goal.returns-then-part-ne34
returns-then-part-ne34 g c f h = string_no f _ _ λ l. c.if-part-ne34.true

pub loop-escape-init : goal.loop-escape-init
loop-escape-init g c = ((omega arith, omega arith), λ f h. string_start f _ _ c.if-part-ne34.false)

pub returns-in_err-next : goal.returns-in_err-next
returns-in_err-next g c f h = rw (passed_on c.from_residual.ensures) (string_lost f _ _ _ (c.loop-escape.invariant.1 f h) _ c.rest_at.ensures _ (c.in_err-next.ensures.reads f (λ x r p. h x r (search rules))))

pub loop-escape-smaller : goal.loop-escape-smaller
loop-escape-smaller g c = let m = piece_more c.loop-escape.c c.rest_at.result.now c.in-More.is c.in_ok-next.ensures.inside in omega (arith, m, c.rest_at.ensures.size)

pub loop-escape-preserved : goal.loop-escape-preserved
loop-escape-preserved g c =
    let m = piece_more c.loop-escape.c c.rest_at.result.now c.in-More.is c.in_ok-next.ensures.inside in
    ((omega arith, omega (arith, m, c.rest_at.ensures.size)), λ f h. string_more f c.args.base c.args.part.now _ (c.loop-escape.invariant.1 f h) _ c.rest_at.ensures c.in-More.is c.in_ok-next.ensures.inside (c.in_ok-next.ensures.reads f (λ x r p. h x r (search rules))))

pub returns-in-Last : goal.returns-in-Last
returns-in-Last g c f h = string_ends f _ _ _ (c.loop-escape.invariant.1 f h) _ c.rest_at.ensures c.in-Last.is (c.in_ok-next.ensures.reads f (λ x r p. h x r (search rules)))
