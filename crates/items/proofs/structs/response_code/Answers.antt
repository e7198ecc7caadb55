use Rattle.lexing.proofs.Losses.{passed_on}
use Rattle.items.specs.structs.{response_code}
use native.Mathlib.Omega.{arith}
use Rattle.lexing.proofs.Slicing.{begin, on, done}
use Rattle.lexing.proofs.Pairs.{three_go, three_lose}
use Rattle.lexing.proofs.steps.Laws.{blank_at_took}
use Rattle.lexing.proofs.names.Laws.{equals_code_on, number_at_took, number_at_lost}
use Rattle.items.proofs.structs.response_code.Goals as goal

pub equals_code-requires : goal.equals_code-requires
equals_code-requires c = omega (arith, c.requires)

pub returns-in_err-code : goal.returns-in_err-code
unfolding response_code
returns-in_err-code c = rw (passed_on c.from_residual.ensures) ((begin (response_code) _ _ (three_lose _ _ _ _ _ c.in_err-code.ensures.at (number_at_lost c.in_err-code.ensures))))

pub blank_at-c2-requires : goal.blank_at-c2-requires
blank_at-c2-requires c = let t = number_at_took c.in_ok-code.ensures equals_code_on in omega (arith, t.up, t.inside, c.requires)

pub returns : goal.returns
unfolding response_code
returns c = (begin (response_code) _ _ (three_go _ _ _ _ (number_at_took c.in_ok-code.ensures equals_code_on) (on _ (blank_at_took c.blank_at-c2.ensures) (done _ _ _ _))))
