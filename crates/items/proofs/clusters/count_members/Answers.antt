use native.Mathlib.Omega.{arith}
use Rattle.items.proofs.clusters.Laws.{members_start, members_more, members_on_turn, members_end}
use Rattle.items.proofs.clusters.count_members.Goals as goal

pub loop-k-init : goal.loop-k-init
loop-k-init c = members_start _ _

pub rest_at-requires : goal.rest_at-requires
rest_at-requires c = let i = c.loop-k.invariant.at 0 in omega (arith, i.run.from, i.run.inside)

pub overflow_add-n : goal.overflow_add-n
overflow_add-n c = let i = c.loop-k.invariant.at 0 in let s = members_on_turn c.loop-k.invariant c.rest_at.ensures c.in-Ok.ensures in omega (arith, i.few, i.run.from, s.0, s.1.0, s.1.1, c.requires)

pub loop-k-smaller : goal.loop-k-smaller
loop-k-smaller c = let s = members_on_turn c.loop-k.invariant c.rest_at.ensures c.in-Ok.ensures in omega (arith, s.0, s.1.0)

pub loop-k-preserved : goal.loop-k-preserved
loop-k-preserved c = members_more c.loop-k.invariant c.rest_at.ensures c.in-Ok.ensures

pub returns-in-Err : goal.returns-in-Err
returns-in-Err c = members_end c.loop-k.invariant c.rest_at.ensures c.in-Err.ensures c.count_end.ensures
