use Rattle.lexing.proofs.Losses.{passed_on}
use Rattle.items.specs.members.{parse_command_after_doc_maturity}
use Rattle.items.proofs.commands.Laws.{command_not, command_is, command_types_took}
use native.Mathlib.Omega.{arith}
use Rattle.lexing.proofs.Slicing.{walks, rest_self, begin, go, lose, done}
use Rattle.lexing.proofs.AnswerLaws.{read_lost, read_took}
use Rattle.lexing.proofs.Pairs.{pair_on, pair_fall, four_go, four_lose}
use Rattle.lexing.proofs.steps.Laws.{tag_after_took, skips_lost}
use Rattle.lexing.proofs.names.Laws.{code_after_on, number_at_took, number_at_lost}
use Rattle.items.proofs.Locality.{command_head_inside}
use Rattle.lexing.proofs.Locality.{chain_inside}
use Rattle.items.proofs.commands.parse_command_after_doc_maturity.Goals as goal

pub returns-in_err-head : goal.returns-in_err-head
unfolding parse_command_after_doc_maturity
returns-in_err-head c = rw (passed_on c.from_residual.ensures) (command_not _ λ d m. (begin (parse_command_after_doc_maturity d m) _ _ (lose _ _ _ (rest_self _ _) (read_lost c.in_err-head.ensures))))

pub rest_at-requires : goal.rest_at-requires
rest_at-requires c = let t = read_took c.in_ok-head.ensures (walks (chain_inside command_head_inside)) (rest_self _ _) in omega (arith, t.up, t.inside)

pub returns-in_err-types : goal.returns-in_err-types
unfolding parse_command_after_doc_maturity
returns-in_err-types c = rw (passed_on c.from_residual-in_err-types.ensures) (command_not _ λ d m. (begin (parse_command_after_doc_maturity d m) _ _ (go _ (read_took c.in_ok-head.ensures (walks (chain_inside command_head_inside)) (rest_self _ _)) (lose _ _ _ c.rest_at.ensures (read_lost c.in_err-types.ensures)))))

pub blank_equals_code-requires : goal.blank_equals_code-requires
blank_equals_code-requires c = let t = command_types_took c.in_ok-types.ensures c.rest_at.ensures in omega (arith, t.up, t.inside, c.rest_at.ensures.from, c.requires)

pub returns-in_err-code : goal.returns-in_err-code
unfolding parse_command_after_doc_maturity
returns-in_err-code c = rw (passed_on c.from_residual-in_err-code.ensures) (command_not _ λ d m. (begin (parse_command_after_doc_maturity d m) _ _ (go _ (read_took c.in_ok-head.ensures (walks (chain_inside command_head_inside)) (rest_self _ _)) (go _ (command_types_took c.in_ok-types.ensures c.rest_at.ensures) (four_lose _ _ _ _ _ _ c.in_err-code.ensures.at (number_at_lost c.in_err-code.ensures))))))

pub tag_after-requires : goal.tag_after-requires
tag_after-requires c = let t = number_at_took c.in_ok-code.ensures code_after_on in omega (arith, t.up, t.inside, c.in_ok-code.ensures.at.from, c.requires)

pub returns-in_err-c4 : goal.returns-in_err-c4
unfolding parse_command_after_doc_maturity
returns-in_err-c4 c = rw (passed_on c.from_residual-in_err-c4.ensures) (command_not _ λ d m. (begin (parse_command_after_doc_maturity d m) _ _ (go _ (read_took c.in_ok-head.ensures (walks (chain_inside command_head_inside)) (rest_self _ _)) (go _ (command_types_took c.in_ok-types.ensures c.rest_at.ensures) (four_go _ _ _ _ _ (number_at_took c.in_ok-code.ensures code_after_on) (pair_fall _ _ _ _ c.in_err-c4.ensures.at (skips_lost c.in_err-c4.ensures)))))))

pub returns : goal.returns
unfolding parse_command_after_doc_maturity
returns c = command_is c.in_ok-head.ensures.within c.in_ok-types.ensures.within (omega (arith, (number_at_took c.in_ok-code.ensures code_after_on).up, (tag_after_took 59 c.in_ok-c4.ensures).up)) λ d m. (begin (parse_command_after_doc_maturity d m) _ _ (go _ (read_took c.in_ok-head.ensures (walks (chain_inside command_head_inside)) (rest_self _ _)) (go _ (command_types_took c.in_ok-types.ensures c.rest_at.ensures) (four_go _ _ _ _ _ (number_at_took c.in_ok-code.ensures code_after_on) (pair_on _ _ _ (tag_after_took 59 c.in_ok-c4.ensures) (done _ _ _ _))))))
