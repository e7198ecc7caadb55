use Rattle.lexing.proofs.Losses.{passed_on}
use Rattle.items.specs.members.{command_head}
use Rattle.items.proofs.SetSizes.{fits}
use Rattle.lexing.proofs.names.Laws.{named_in, named_at_took, named_at_lost, blank_word_on}
use Rattle.items.proofs.commands.Laws.{command_head_is}
use native.Mathlib.Omega.{arith}
use Rattle.lexing.specs.bytes.{ascii}
use Rattle.lexing.proofs.Slicing.{rest_self, begin, go, on, fall, done, set_took, keyword_took}
use Rattle.lexing.proofs.AnswerLaws.{read_not}
use Rattle.lexing.proofs.Pairs.{pair_go, pair_lose}
use Rattle.lexing.proofs.steps.Laws.{blank_at_took}
use Rattle.items.proofs.levels.Laws.{access_on}
use Rattle.items.proofs.Mapped.{read_as}
use Rattle.items.proofs.commands.command_head.Goals as goal

pub rest_at-requires : goal.rest_at-requires
rest_at-requires c = let t = blank_at_took c.blank_at-c2.ensures in omega (arith, t.up, t.inside, c.blank_at-c2.ensures.at.from)

pub returns-in_err-c3 : goal.returns-in_err-c3
unfolding command_head
returns-in_err-c3 c = rw (passed_on c.from_residual.ensures) (read_not _ (begin (command_head) _ _ (go _ (set_took (rest_self _ _) c.keywords_set-q.ensures) (on _ (blank_at_took c.blank_at-c2.ensures) (fall _ _ _ c.rest_at.ensures c.in_err-c3.ensures)))))

pub rest_at-requires-2 : goal.rest_at-requires-2
rest_at-requires-2 c = let t = keyword_took c.rest_at.ensures (ascii "command") c.in_ok-c3.ensures in omega (arith, t.up, t.inside, c.rest_at.ensures.from)

pub blank_word-requires : goal.blank_word-requires
blank_word-requires c = let t = (read_as c.access_to-privilege.ensures (access_on _) c.rest_at-2.ensures).step in omega (arith, t.up, t.inside, c.rest_at-2.ensures.from, c.requires)

pub returns-in_err-named : goal.returns-in_err-named
unfolding command_head
returns-in_err-named c = rw (passed_on c.from_residual-in_err-named.ensures) (read_not _ (begin (command_head) _ _ (go _ (set_took (rest_self _ _) c.keywords_set-q.ensures) (on _ (blank_at_took c.blank_at-c2.ensures) (on _ (keyword_took c.rest_at.ensures (ascii "command") c.in_ok-c3.ensures) (go _ (read_as c.access_to-privilege.ensures (access_on _) c.rest_at-2.ensures).step (pair_lose _ _ _ _ c.in_err-named.ensures.at (named_at_lost c.in_err-named.ensures))))))))

pub returns : goal.returns
unfolding command_head
returns c = command_head_is _ 1 _ (read_as c.access_to-privilege.ensures (access_on _) c.rest_at-2.ensures).value _ _ _ _ _ (fits c.keywords_set-q.ensures) c.in_ok-named.ensures.at.from (named_in c.in_ok-named.ensures.named) (read_as c.access_to-privilege.ensures (access_on _) c.rest_at-2.ensures).is (begin (command_head) _ _ (go _ (set_took (rest_self _ _) c.keywords_set-q.ensures) (on _ (blank_at_took c.blank_at-c2.ensures) (on _ (keyword_took c.rest_at.ensures (ascii "command") c.in_ok-c3.ensures) (go _ (read_as c.access_to-privilege.ensures (access_on _) c.rest_at-2.ensures).step (pair_go _ _ _ (named_at_took c.in_ok-named.ensures blank_word_on) (done _ _ _ _)))))))
