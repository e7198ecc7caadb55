use Rattle.lexing.proofs.Losses.{passed_on}
use Rattle.items.specs.members.{event_head}
use Rattle.lexing.proofs.names.Laws.{named_in, named_at_took, named_at_lost, blank_word_on, code_after_on, number_at_took, number_at_lost}
use mathlib.Core.Path.{refl}
use native.Mathlib.Omega.{arith}
use Rattle.lexing.proofs.Slicing.{walks, rest_self, begin, go, on, lose, done}
use Rattle.lexing.proofs.AnswerLaws.{read_is, read_not, read_lost, read_took}
use Rattle.lexing.proofs.Pairs.{pair_go, pair_lose, four_go, four_lose}
use Rattle.lexing.proofs.steps.Laws.{blank_at_took}
use Rattle.items.proofs.Locality.{event_qualities_inside}
use Rattle.lexing.proofs.Locality.{chain_inside}
use Rattle.items.proofs.events.event_head.Goals as goal

pub returns-in_err-q : goal.returns-in_err-q
unfolding event_head
returns-in_err-q c = rw (passed_on c.from_residual.ensures) (read_not _ (begin (event_head) _ _ (lose _ _ _ (rest_self _ _) (read_lost c.in_err-q.ensures))))

pub blank_word-requires : goal.blank_word-requires
blank_word-requires c = let t = read_took c.in_ok-q.ensures (walks (chain_inside event_qualities_inside)) (rest_self _ _) in omega (arith, t.up, t.inside, c.requires)

pub returns-in_err-named : goal.returns-in_err-named
unfolding event_head
returns-in_err-named c = rw (passed_on c.from_residual-in_err-named.ensures) (read_not _ (begin (event_head) _ _ (go _ (read_took c.in_ok-q.ensures (walks (chain_inside event_qualities_inside)) (rest_self _ _)) (pair_lose _ _ _ _ c.in_err-named.ensures.at (named_at_lost c.in_err-named.ensures)))))

pub blank_equals_code-requires : goal.blank_equals_code-requires
blank_equals_code-requires c = let t = named_at_took c.in_ok-named.ensures blank_word_on in omega (arith, t.up, t.inside, c.in_ok-named.ensures.at.from, c.requires)

pub returns-in_err-code : goal.returns-in_err-code
unfolding event_head
returns-in_err-code c = rw (passed_on c.from_residual-in_err-code.ensures) (read_not _ (begin (event_head) _ _ (go _ (read_took c.in_ok-q.ensures (walks (chain_inside event_qualities_inside)) (rest_self _ _)) (pair_go _ _ _ (named_at_took c.in_ok-named.ensures blank_word_on) (four_lose _ _ _ _ _ _ c.in_err-code.ensures.at (number_at_lost c.in_err-code.ensures))))))

pub blank_at-c4-requires : goal.blank_at-c4-requires
blank_at-c4-requires c = let t = number_at_took c.in_ok-code.ensures code_after_on in omega (arith, t.up, t.inside, c.in_ok-code.ensures.at.from, c.requires)

pub returns : goal.returns
unfolding event_head
returns c = read_is refl (begin (event_head) _ _ (go _ (read_took c.in_ok-q.ensures (walks (chain_inside event_qualities_inside)) (rest_self _ _)) (pair_go _ _ _ (named_at_took c.in_ok-named.ensures blank_word_on) (four_go _ _ _ _ _ (number_at_took c.in_ok-code.ensures code_after_on) (on _ (blank_at_took c.blank_at-c4.ensures) (done _ _ _ _)))))) (let n = (named_in c.in_ok-named.ensures.named) in record { sensitive = c.in_ok-q.ensures.within; name_from = omega (arith, (read_took c.in_ok-q.ensures (walks (chain_inside event_qualities_inside)) (rest_self _ _)).up, n.from); name_to = n.up; before = omega (arith, n.inside, (number_at_took c.in_ok-code.ensures code_after_on).up, (blank_at_took c.blank_at-c4.ensures).up) })
