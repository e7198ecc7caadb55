use Rattle.lexing.proofs.Losses.{passed_on}
use native.Mathlib.Omega.{arith}
use Rattle.lexing.proofs.AnswerLaws.{read_lost}
use Rattle.items.proofs.Headed.{headed_lost, headed_pass, headed_counted}
use Rattle.items.proofs.attributes.Laws.{attribute_head_took, attribute_head_consumes, attribute_headed, field_counted}
use Rattle.items.proofs.attributes.count_attribute.Goals as goal

pub returns-in_err-c1 : goal.returns-in_err-c1
returns-in_err-c1 c = rw (passed_on c.from_residual.ensures) (headed_lost attribute_headed _ (read_lost c.in_err-c1.ensures))

pub rest_at-requires : goal.rest_at-requires
rest_at-requires c = omega (arith, (attribute_head_took c.in_ok-c1.ensures).up, (attribute_head_took c.in_ok-c1.ensures).inside)

pub returns-in_err-c2 : goal.returns-in_err-c2
returns-in_err-c2 c = rw (passed_on c.from_residual-in_err-c2.ensures) (headed_pass attribute_headed (attribute_head_took c.in_ok-c1.ensures) _ c.rest_at.ensures (read_lost c.in_err-c2.ensures))

pub returns : goal.returns
returns c = headed_counted attribute_headed (attribute_head_took c.in_ok-c1.ensures) attribute_head_consumes (omega arith) (field_counted c.in_ok-c2.ensures c.rest_at.ensures)
