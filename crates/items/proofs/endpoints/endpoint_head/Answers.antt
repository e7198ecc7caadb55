use Rattle.lexing.proofs.Losses.{passed_on}
use Rattle.items.specs.endpoints.{endpoint_head}
use native.Mathlib.Omega.{arith}
use Rattle.lexing.proofs.Slicing.{begin, on, done}
use Rattle.lexing.proofs.Pairs.{three_go, three_lose}
use Rattle.lexing.proofs.steps.Laws.{blank_at_took}
use Rattle.lexing.proofs.names.Laws.{number_took, keyword_number_on}
use Rattle.items.proofs.endpoints.endpoint_head.Goals as goal

pub rest_at-requires : goal.rest_at-requires
rest_at-requires c = let t = blank_at_took c.blank_at-c1.ensures in omega (arith, t.up, t.inside)

pub returns-in_err-id : goal.returns-in_err-id
unfolding endpoint_head
returns-in_err-id c = rw (passed_on c.from_residual.ensures) ((begin (endpoint_head) _ _ (on _ (blank_at_took c.blank_at-c1.ensures) (three_lose _ _ _ _ _ c.rest_at.ensures c.in_err-id.ensures))))

pub blank_at-c3-requires : goal.blank_at-c3-requires
blank_at-c3-requires c = let t = number_took (keyword_number_on _) c.rest_at.ensures c.in_ok-id.ensures in omega (arith, t.up, t.inside, c.rest_at.ensures.from, c.requires)

pub returns : goal.returns
unfolding endpoint_head
returns c = (begin (endpoint_head) _ _ (on _ (blank_at_took c.blank_at-c1.ensures) (three_go _ _ _ _ (number_took (keyword_number_on _) c.rest_at.ensures c.in_ok-id.ensures) (on _ (blank_at_took c.blank_at-c3.ensures) (done _ _ _ _)))))
