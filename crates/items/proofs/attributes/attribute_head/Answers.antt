use Rattle.lexing.proofs.Losses.{passed_on}
use Rattle.items.specs.inner.attributes.{attribute_head}
use Rattle.items.proofs.SetSizes.{fits}
use Rattle.items.proofs.attributes.Laws.{attribute_access_onward}
use mathlib.Core.Path.{refl}
use native.Mathlib.Omega.{arith}
use Rattle.lexing.specs.bytes.{ascii}
use Rattle.lexing.proofs.Slicing.{rest_self, begin, go, on, lose, fall, done, set_took, keyword_took}
use Rattle.lexing.proofs.AnswerLaws.{read_is, read_not, read_lost, read_took}
use Rattle.lexing.proofs.steps.Laws.{blank_at_took, gap_at_took, skips_lost}
use Rattle.items.proofs.attributes.attribute_head.Goals as goal

pub rest_at-requires : goal.rest_at-requires
rest_at-requires c = let t = blank_at_took c.blank_at-c1.ensures in omega (arith, t.up, t.inside, c.blank_at-c1.ensures.at.from)

pub returns-in_err-c2 : goal.returns-in_err-c2
unfolding attribute_head
returns-in_err-c2 c = rw (passed_on c.from_residual.ensures) (read_not _ (begin (attribute_head) _ _ (go _ (set_took (rest_self _ _) c.keywords_set-q.ensures) (on _ (blank_at_took c.blank_at-c1.ensures) (fall _ _ _ c.rest_at.ensures c.in_err-c2.ensures)))))

pub gap_at-requires : goal.gap_at-requires
gap_at-requires c = let t = keyword_took c.rest_at.ensures (ascii "attribute") c.in_ok-c2.ensures in omega (arith, t.up, t.inside, c.rest_at.ensures.from, c.requires)

pub returns-in_err-c3 : goal.returns-in_err-c3
unfolding attribute_head
returns-in_err-c3 c = rw (passed_on c.from_residual-in_err-c3.ensures) (read_not _ (begin (attribute_head) _ _ (go _ (set_took (rest_self _ _) c.keywords_set-q.ensures) (on _ (blank_at_took c.blank_at-c1.ensures) (on _ (keyword_took c.rest_at.ensures (ascii "attribute") c.in_ok-c2.ensures) (fall _ _ _ c.in_err-c3.ensures.at (skips_lost c.in_err-c3.ensures)))))))

pub rest_at-requires-2 : goal.rest_at-requires-2
rest_at-requires-2 c = let t = gap_at_took c.in_ok-c3.ensures in omega (arith, t.up, t.inside, c.in_ok-c3.ensures.at.from)

pub returns-in_err-privileges : goal.returns-in_err-privileges
unfolding attribute_head
returns-in_err-privileges c = rw (passed_on c.from_residual-in_err-privileges.ensures) (read_not _ (begin (attribute_head) _ _ (go _ (set_took (rest_self _ _) c.keywords_set-q.ensures) (on _ (blank_at_took c.blank_at-c1.ensures) (on _ (keyword_took c.rest_at.ensures (ascii "attribute") c.in_ok-c2.ensures) (on _ (gap_at_took c.in_ok-c3.ensures) (lose _ _ _ c.rest_at-2.ensures (read_lost c.in_err-privileges.ensures))))))))

pub returns : goal.returns
unfolding attribute_head
returns c = read_is refl (begin (attribute_head) _ _ (go _ (set_took (rest_self _ _) c.keywords_set-q.ensures) (on _ (blank_at_took c.blank_at-c1.ensures) (on _ (keyword_took c.rest_at.ensures (ascii "attribute") c.in_ok-c2.ensures) (on _ (gap_at_took c.in_ok-c3.ensures) (go _ (read_took c.in_ok-privileges.ensures attribute_access_onward c.rest_at-2.ensures) (done _ _ _ _))))))) (fits c.keywords_set-q.ensures)
