use mathlib.Core.Path.{sym, ◌∙◌}
use Rattle.lexing.proofs.utf8.Laws.{size_cut, second_in, second_out, tail_in, tail_out, tails_end}
use Rattle.lexing.proofs.utf8.size_by.Goals.{then-rest-n-via-then-rest-n, then-rest-n-via-else-rest-n+then-not-is_between}
use Rattle.lexing.proofs.utf8.size_by.Goals as goal

pub returns-then-rest-n : goal.returns-then-rest-n
returns-then-rest-n c =
    elim c.then-rest-n.branch [
      | then-rest-n-via-then-rest-n w ↦ size_cut c.args.rest.now _ _ _ c.requires w.if-rest-n.true
      | then-rest-n-via-else-rest-n+then-not-is_between w ↦ second_out c.args.rest.now _ _ _ c.requires w.if-rest-n.false (sym w.is_between.ensures ∙ w.if-not-is_between.true)
    ]

pub loop-x-init : goal.loop-x-init
loop-x-init c = second_in c.args.rest.now _ _ _ c.requires c.if-rest-n.false (sym c.if-not-is_between.ensures)

pub returns-then-not-is_between-2 : goal.returns-then-not-is_between-2
returns-then-not-is_between-2 c = tail_out _ _ _ _ _ c.loop-x.invariant c.loop-x-test.true (sym c.if-not-is_between-2.ensures)

pub loop-x-preserved : goal.loop-x-preserved
loop-x-preserved c = tail_in _ _ _ _ _ c.loop-x.invariant c.loop-x-test.true (sym c.if-not-is_between-2.ensures)

pub returns : goal.returns
returns c = tails_end _ _ _ _ _ c.loop-x.invariant c.loop-x-test.false
