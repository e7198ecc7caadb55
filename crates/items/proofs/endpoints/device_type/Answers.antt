use Rattle.lexing.proofs.Losses.{passed_on}
use Rattle.items.specs.endpoints.{device_type}
use Rattle.lexing.proofs.names.Laws.{named_in, named_took, number_took, code_after_on, number_at_took, number_at_lost, two_keywords_name_on}
use mathlib.Core.Path.{refl}
use native.Mathlib.Omega.{arith}
use Rattle.lexing.specs.bytes.{ascii}
use Rattle.lexing.proofs.Slicing.{rest_self, begin, go, lose, done}
use Rattle.lexing.proofs.AnswerLaws.{read_is, read_not, read_lost}
use Rattle.lexing.proofs.Pairs.{four_go, four_lose}
use Rattle.items.proofs.endpoints.Laws.{device_version_on}
use Rattle.items.proofs.endpoints.device_type.Goals as goal

pub returns-in_err-named : goal.returns-in_err-named
unfolding device_type
returns-in_err-named c = rw (passed_on c.from_residual.ensures) (read_not _ (begin (device_type) _ _ (lose _ _ _ (rest_self _ _) (read_lost c.in_err-named.ensures))))

pub blank_equals_code-requires : goal.blank_equals_code-requires
blank_equals_code-requires c = let t = named_took c.in_ok-named.ensures (two_keywords_name_on (ascii "device") (ascii "type")) (rest_self _ _) in omega (arith, t.up, t.inside, c.requires)

pub returns-in_err-code : goal.returns-in_err-code
unfolding device_type
returns-in_err-code c = rw (passed_on c.from_residual-in_err-code.ensures) (read_not _ (begin (device_type) _ _ (go _ (named_took c.in_ok-named.ensures (two_keywords_name_on (ascii "device") (ascii "type")) (rest_self _ _)) (four_lose _ _ _ _ _ _ c.in_err-code.ensures.at (number_at_lost c.in_err-code.ensures)))))

pub rest_at-requires : goal.rest_at-requires
rest_at-requires c = let t = number_at_took c.in_ok-code.ensures code_after_on in omega (arith, t.up, t.inside, c.in_ok-code.ensures.at.from)

pub returns-in_err-version : goal.returns-in_err-version
unfolding device_type
returns-in_err-version c = rw (passed_on c.from_residual-in_err-version.ensures) (read_not _ (begin (device_type) _ _ (go _ (named_took c.in_ok-named.ensures (two_keywords_name_on (ascii "device") (ascii "type")) (rest_self _ _)) (four_go _ _ _ _ _ (number_at_took c.in_ok-code.ensures code_after_on) (lose _ _ _ c.rest_at.ensures c.in_err-version.ensures)))))

pub returns : goal.returns
unfolding device_type
returns c = read_is refl (begin (device_type) _ _ (go _ (named_took c.in_ok-named.ensures (two_keywords_name_on (ascii "device") (ascii "type")) (rest_self _ _)) (four_go _ _ _ _ _ (number_at_took c.in_ok-code.ensures code_after_on) (go _ (number_took device_version_on c.rest_at.ensures c.in_ok-version.ensures) (done _ _ _ _))))) (let w = named_in c.in_ok-named.ensures in record { from = w.from; up = w.up; inside = omega (arith, w.inside, (number_at_took c.in_ok-code.ensures code_after_on).up, (number_took device_version_on c.rest_at.ensures c.in_ok-version.ensures).up) })
