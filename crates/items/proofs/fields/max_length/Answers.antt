use Rattle.lexing.proofs.Losses.{passed_on}
use Rattle.items.specs.structs.{max_length}
use native.Mathlib.Omega.{arith}
use Rattle.lexing.proofs.Slicing.{begin, done}
use Rattle.lexing.proofs.Pairs.{pair_go, pair_on, pair_lose, pair_fall}
use Rattle.lexing.proofs.steps.Laws.{tag_after_took, integer_after_took, skips_lost, integer_after_lost}
use Rattle.items.proofs.fields.max_length.Goals as goal

pub tag_after-requires : goal.tag_after-requires
tag_after-requires c = omega (arith, c.requires)

pub returns-in_err-c1 : goal.returns-in_err-c1
unfolding max_length
returns-in_err-c1 c = rw (passed_on c.from_residual.ensures) ((begin (max_length) _ _ (pair_fall _ _ _ _ c.in_err-c1.ensures.at (skips_lost c.in_err-c1.ensures))))

pub integer_after-requires : goal.integer_after-requires
integer_after-requires c = let t = tag_after_took 60 c.in_ok-c1.ensures in omega (arith, t.up, t.inside, c.requires)

pub returns-in_err-v : goal.returns-in_err-v
unfolding max_length
returns-in_err-v c = rw (passed_on c.from_residual-in_err-v.ensures) ((begin (max_length) _ _ (pair_on _ _ _ (tag_after_took 60 c.in_ok-c1.ensures) (pair_lose _ _ _ _ c.in_err-v.ensures.at (integer_after_lost c.in_err-v.ensures)))))

pub tag_after-requires-2 : goal.tag_after-requires-2
tag_after-requires-2 c = let t = integer_after_took c.in_ok-v.ensures in omega (arith, t.up, t.inside, c.in_ok-v.ensures.at.from, c.requires)

pub returns-in_err-c3 : goal.returns-in_err-c3
unfolding max_length
returns-in_err-c3 c = rw (passed_on c.from_residual-in_err-c3.ensures) ((begin (max_length) _ _ (pair_on _ _ _ (tag_after_took 60 c.in_ok-c1.ensures) (pair_go _ _ _ (integer_after_took c.in_ok-v.ensures) (pair_fall _ _ _ _ c.in_err-c3.ensures.at (skips_lost c.in_err-c3.ensures))))))

pub returns : goal.returns
unfolding max_length
returns c = (begin (max_length) _ _ (pair_on _ _ _ (tag_after_took 60 c.in_ok-c1.ensures) (pair_go _ _ _ (integer_after_took c.in_ok-v.ensures) (pair_on _ _ _ (tag_after_took 62 c.in_ok-c3.ensures) (done _ _ _ _)))))
