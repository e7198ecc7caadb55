use Rattle.items.specs.declared.levels.Privilege.TheVariants.{View}
use Rattle.lexing.proofs.Losses.{passed_on}
use Rattle.items.specs.members.{event_qualities}
use Rattle.items.proofs.SetSizes.{fits}
use Rattle.items.proofs.events.Laws.{event_qualities_is, event_word_on, event_access_took}
use native.Mathlib.Omega.{arith}
use Rattle.lexing.specs.bytes.{ascii}
use Rattle.lexing.proofs.Slicing.{walks, rest_self, begin, go, on, lose, done, set_took}
use Rattle.lexing.proofs.AnswerLaws.{read_not, read_took, read_lost}
use Rattle.lexing.proofs.Pairs.{three_on, three_fall}
use Rattle.lexing.proofs.steps.Laws.{blank_at_took, skips_lost}
use Rattle.items.proofs.Locality.{event_priority_local}
use Rattle.lexing.proofs.answers.Laws.{skip_took}
use Rattle.items.proofs.events.event_qualities.Goals as goal

pub rest_at-requires : goal.rest_at-requires
rest_at-requires c = let t = blank_at_took c.blank_at-c2.ensures in omega (arith, t.up, t.inside, c.blank_at-c2.ensures.at.from)

pub returns-in_err-rank : goal.returns-in_err-rank
unfolding event_qualities
returns-in_err-rank c = rw (passed_on c.from_residual.ensures) (read_not _ (begin (event_qualities) _ _ (go _ (set_took (rest_self _ _) c.keywords_set-q.ensures) (on _ (blank_at_took c.blank_at-c2.ensures) (lose _ _ _ c.rest_at.ensures (read_lost c.in_err-rank.ensures))))))

pub event_word-requires : goal.event_word-requires
event_word-requires c = let t = read_took c.in_ok-rank.ensures (walks event_priority_local.on_chain) c.rest_at.ensures in omega (arith, t.up, t.inside, c.rest_at.ensures.from, c.requires)

pub returns-in_err-c4 : goal.returns-in_err-c4
unfolding event_qualities
returns-in_err-c4 c = rw (passed_on c.from_residual-in_err-c4.ensures) (read_not _ (begin (event_qualities) _ _ (go _ (set_took (rest_self _ _) c.keywords_set-q.ensures) (on _ (blank_at_took c.blank_at-c2.ensures) (go _ (read_took c.in_ok-rank.ensures (walks event_priority_local.on_chain) c.rest_at.ensures) (three_fall _ _ _ _ _ c.in_err-c4.ensures.at (skips_lost c.in_err-c4.ensures)))))))

pub rest_at-requires-2 : goal.rest_at-requires-2
rest_at-requires-2 c = let t = skip_took event_word_on c.in_ok-c4.ensures.at c.in_ok-c4.ensures.skips in omega (arith, t.up, t.inside, c.in_ok-c4.ensures.at.from)

pub returns : goal.returns
unfolding event_qualities
returns c = event_qualities_is _ _ 0 _ (event_access_took (ascii "read") View (skip_took event_word_on c.in_ok-c4.ensures.at c.in_ok-c4.ensures.skips) c.rest_at-2.ensures c.access_to-privilege.ensures).value _ _ _ (fits c.keywords_set-q.ensures) (event_access_took (ascii "read") View (skip_took event_word_on c.in_ok-c4.ensures.at c.in_ok-c4.ensures.skips) c.rest_at-2.ensures c.access_to-privilege.ensures).is (begin (event_qualities) _ _ (go _ (set_took (rest_self _ _) c.keywords_set-q.ensures) (on _ (blank_at_took c.blank_at-c2.ensures) (go _ (read_took c.in_ok-rank.ensures (walks event_priority_local.on_chain) c.rest_at.ensures) (three_on _ _ _ _ (skip_took event_word_on c.in_ok-c4.ensures.at c.in_ok-c4.ensures.skips) (go _ (event_access_took (ascii "read") View (skip_took event_word_on c.in_ok-c4.ensures.at c.in_ok-c4.ensures.skips) c.rest_at-2.ensures c.access_to-privilege.ensures).step (done _ _ _ _)))))))
