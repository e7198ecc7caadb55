use Rattle.lexing.proofs.Losses.{passed_on}
use Rattle.items.specs.endpoints.{instantiation_head}
use Rattle.lexing.proofs.names.Laws.{named_wider, named_took, two_keywords_name_on}
use mathlib.Core.Path.{refl}
use native.Mathlib.Omega.{arith}
use Rattle.lexing.specs.bytes.{ascii}
use Rattle.lexing.proofs.Slicing.{begin, go, on, lose, done}
use Rattle.lexing.proofs.AnswerLaws.{read_is, read_not, read_lost}
use Rattle.lexing.proofs.steps.Laws.{blank_at_took}
use Rattle.items.proofs.instances.instantiation_head.Goals as goal

pub rest_at-requires : goal.rest_at-requires
rest_at-requires c = let t = blank_at_took c.blank_at-c1.ensures in omega (arith, t.up, t.inside)

pub returns-in_err-named : goal.returns-in_err-named
unfolding instantiation_head
returns-in_err-named c = rw (passed_on c.from_residual.ensures) (read_not _ (begin (instantiation_head) _ _ (on _ (blank_at_took c.blank_at-c1.ensures) (lose _ _ _ c.rest_at.ensures (read_lost c.in_err-named.ensures)))))

pub blank_at-c3-requires : goal.blank_at-c3-requires
blank_at-c3-requires c = let t = named_took c.in_ok-named.ensures (two_keywords_name_on (ascii "server") (ascii "cluster")) c.rest_at.ensures in omega (arith, t.up, t.inside, c.rest_at.ensures.from, c.requires)

pub returns : goal.returns
unfolding instantiation_head
returns c = read_is refl (begin (instantiation_head) _ _ (on _ (blank_at_took c.blank_at-c1.ensures) (go _ (named_took c.in_ok-named.ensures (two_keywords_name_on (ascii "server") (ascii "cluster")) c.rest_at.ensures) (on _ (blank_at_took c.blank_at-c3.ensures) (done _ _ _ _))))) (named_wider c.in_ok-named.ensures c.rest_at.ensures.from (blank_at_took c.blank_at-c3.ensures).up)
