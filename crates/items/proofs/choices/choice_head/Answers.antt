use Rattle.lexing.proofs.Losses.{passed_on}
use Rattle.items.specs.entries.{choice_head}
use Rattle.lexing.proofs.names.Laws.{named_in, named_more, named_took, keyword_name_on}
use Rattle.items.proofs.choices.Laws.{choice_head_is, shared_took}
use native.Mathlib.Omega.{arith}
use Rattle.lexing.proofs.Slicing.{begin, go, on, lose, done}
use Rattle.lexing.proofs.AnswerLaws.{read_not, read_lost}
use Rattle.lexing.proofs.Pairs.{pair_on, pair_fall, three_go, three_lose}
use Rattle.lexing.proofs.steps.Laws.{blank_at_took, tag_after_took, skips_lost}
use Rattle.lexing.proofs.words.Laws.{word_at_took, word_at_lost}
use Rattle.items.proofs.choices.choice_head.Goals as goal

pub rest_at-requires : goal.rest_at-requires
rest_at-requires c = let t = (shared_took c.requires.choice_from).step in omega (arith, t.up, t.inside)

pub returns-in_err-named : goal.returns-in_err-named
unfolding choice_head
returns-in_err-named c = rw (passed_on c.from_residual.ensures) (read_not _ (begin (choice_head c.args.key.now) _ _ (go _ (shared_took c.requires.choice_from).step (three_lose _ _ _ _ _ c.rest_at.ensures (read_lost c.in_err-named.ensures)))))

pub tag_after-requires : goal.tag_after-requires
tag_after-requires c = let t = named_took c.in_ok-named.ensures (keyword_name_on _) c.rest_at.ensures in omega (arith, t.up, t.inside, c.rest_at.ensures.from, c.requires.part_bound)

pub returns-in_err-c2 : goal.returns-in_err-c2
unfolding choice_head
returns-in_err-c2 c = rw (passed_on c.from_residual-in_err-c2.ensures) (read_not _ (begin (choice_head c.args.key.now) _ _ (go _ (shared_took c.requires.choice_from).step (three_go _ _ _ _ (named_took c.in_ok-named.ensures (keyword_name_on _) c.rest_at.ensures) (pair_fall _ _ _ _ c.in_err-c2.ensures.at (skips_lost c.in_err-c2.ensures))))))

pub blank_at-base_at-requires : goal.blank_at-base_at-requires
blank_at-base_at-requires c = let t = tag_after_took 58 c.in_ok-c2.ensures in omega (arith, t.up, t.inside, c.in_ok-c2.ensures.at.from, c.requires.part_bound)

pub id_at-requires : goal.id_at-requires
id_at-requires c = let t = blank_at_took c.blank_at-base_at.ensures in omega (arith, t.up, t.inside, c.blank_at-base_at.ensures.at.from, c.requires.part_bound)

pub returns-in_err-base_end : goal.returns-in_err-base_end
unfolding choice_head
returns-in_err-base_end c = rw (passed_on c.from_residual-in_err-base_end.ensures) (read_not _ (begin (choice_head c.args.key.now) _ _ (go _ (shared_took c.requires.choice_from).step (three_go _ _ _ _ (named_took c.in_ok-named.ensures (keyword_name_on _) c.rest_at.ensures) (pair_on _ _ _ (tag_after_took 58 c.in_ok-c2.ensures) (on _ (blank_at_took c.blank_at-base_at.ensures) (lose _ _ _ c.in_err-base_end.ensures.at (word_at_lost c.in_err-base_end.ensures))))))))

pub blank_at-c3-requires : goal.blank_at-c3-requires
blank_at-c3-requires c = let t = word_at_took c.in_ok-base_end.ensures in omega (arith, t.up, t.inside, c.in_ok-base_end.ensures.at.from, c.requires.part_bound)

pub returns : goal.returns
unfolding choice_head
returns c = choice_head_is _ _ _ _ _ (shared_took c.requires.choice_from).value (shared_took c.requires.choice_from).is (begin (choice_head c.args.key.now) _ _ (go _ (shared_took c.requires.choice_from).step (three_go _ _ _ _ (named_took c.in_ok-named.ensures (keyword_name_on _) c.rest_at.ensures) (pair_on _ _ _ (tag_after_took 58 c.in_ok-c2.ensures) (on _ (blank_at_took c.blank_at-base_at.ensures) (go _ (word_at_took c.in_ok-base_end.ensures) (on _ (blank_at_took c.blank_at-c3.ensures) (done _ _ _ _)))))))) (let w = named_in c.in_ok-named.ensures in record { name_from = omega (arith, w.from, c.rest_at.ensures.from); name_to = named_more c.in_ok-named.ensures; base_from = omega (arith, w.inside, (tag_after_took 58 c.in_ok-c2.ensures).up, (blank_at_took c.blank_at-base_at.ensures).up); base_to = (word_at_took c.in_ok-base_end.ensures).up; before = (blank_at_took c.blank_at-c3.ensures).up })
