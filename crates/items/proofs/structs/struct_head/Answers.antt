use Rattle.lexing.proofs.Losses.{passed_on}
use borrow.Author.Rules.{rules}
use Rattle.items.specs.structs.{struct_head}
use Rattle.lexing.proofs.names.Laws.{named_in, named_took, keyword_name_on}
use Rattle.items.proofs.SetSizes.{fits}
use mathlib.Core.Path.{refl}
use native.Mathlib.Omega.{arith}
use Rattle.lexing.proofs.Slicing.{rest_self, begin, go, on, lose, done, set_took}
use Rattle.lexing.proofs.AnswerLaws.{read_is, read_not, read_lost}
use Rattle.lexing.proofs.Pairs.{three_go, three_lose}
use Rattle.lexing.proofs.steps.Laws.{blank_at_took}
use Rattle.items.proofs.structs.Laws.{struct_word_took, type_took, type_none}
use Rattle.items.proofs.structs.struct_head.Goals as goal

pub struct_word-word-requires : goal.struct_word-word-requires
struct_word-word-requires c = record { part_bound = c.requires.part_bound; struct_from = c.requires.struct_from }

pub rest_at-requires : goal.rest_at-requires
rest_at-requires c = let t = (blank_at_took c.struct_word-word.ensures.blanks) in omega (arith, t.up, t.inside, c.struct_word-word.ensures.blanks.at.from)

pub keywords_set-set-requires : goal.keywords_set-set-requires
keywords_set-set-requires c = omega (arith, c.rest_at.ensures.size, c.requires.part_bound)

pub blank_at-c1-requires : goal.blank_at-c1-requires
blank_at-c1-requires c = let t = set_took c.rest_at.ensures c.keywords_set-set.ensures in omega (arith, t.up, t.inside, c.rest_at.ensures.from, c.requires.part_bound)

pub rest_at-requires-2 : goal.rest_at-requires-2
rest_at-requires-2 c = let t = blank_at_took c.blank_at-c1.ensures in omega (arith, t.up, t.inside, c.blank_at-c1.ensures.at.from)

pub keyword_name-requires : goal.keyword_name-requires
keyword_name-requires c = record { part_bound = omega (arith, c.rest_at-2.ensures.size, c.requires.part_bound); key_value = search rules }

pub returns-in_err-named : goal.returns-in_err-named
unfolding struct_head
returns-in_err-named c = rw (passed_on c.from_residual.ensures) (read_not _ (begin (struct_head) _ _ (go _ (struct_word_took (rest_self _ _) c.struct_word-word.ensures) (on _ (blank_at_took c.struct_word-word.ensures.blanks) (go _ (set_took c.rest_at.ensures c.keywords_set-set.ensures) (on _ (blank_at_took c.blank_at-c1.ensures) (three_lose _ _ _ _ _ c.rest_at-2.ensures (read_lost c.in_err-named.ensures))))))))

pub blank_at-c3-requires : goal.blank_at-c3-requires
blank_at-c3-requires c = let t = named_took c.in_ok-named.ensures (keyword_name_on _) c.rest_at-2.ensures in omega (arith, t.up, t.inside, c.rest_at-2.ensures.from, c.requires.part_bound)

pub rest_at-requires-3 : goal.rest_at-requires-3
rest_at-requires-3 c = let t = blank_at_took c.blank_at-c3.ensures in omega (arith, t.up, t.inside, c.blank_at-c3.ensures.at.from)

pub struct_code-requires : goal.struct_code-requires
struct_code-requires c = omega (arith, c.rest_at-3.ensures.size, c.requires.part_bound)

pub returns-in_err-code : goal.returns-in_err-code
unfolding struct_head
returns-in_err-code c = rw (passed_on c.from_residual-in_err-code.ensures) (read_not _ (begin (struct_head) _ _ (go _ (struct_word_took (rest_self _ _) c.struct_word-word.ensures) (on _ (blank_at_took c.struct_word-word.ensures.blanks) (go _ (set_took c.rest_at.ensures c.keywords_set-set.ensures) (on _ (blank_at_took c.blank_at-c1.ensures) (three_go _ _ _ _ (named_took c.in_ok-named.ensures (keyword_name_on _) c.rest_at-2.ensures) (on _ (blank_at_took c.blank_at-c3.ensures) (lose _ _ _ c.rest_at-3.ensures (type_none c.struct_word-word.ensures.read c.struct_word-word.result.kind c.struct_word-word.ensures.means _ _ _ c.in_err-code.ensures))))))))))

pub returns : goal.returns
unfolding struct_head
returns c = read_is refl (begin (struct_head) _ _ (go _ (struct_word_took (rest_self _ _) c.struct_word-word.ensures) (on _ (blank_at_took c.struct_word-word.ensures.blanks) (go _ (set_took c.rest_at.ensures c.keywords_set-set.ensures) (on _ (blank_at_took c.blank_at-c1.ensures) (three_go _ _ _ _ (named_took c.in_ok-named.ensures (keyword_name_on _) c.rest_at-2.ensures) (on _ (blank_at_took c.blank_at-c3.ensures) (go _ (type_took c.struct_word-word.ensures.read c.struct_word-word.result.kind c.struct_word-word.ensures.means _ _ _ _ c.in_ok-code.ensures c.rest_at-3.ensures) (done _ _ _ _))))))))) (let w = named_in c.in_ok-named.ensures in record { name_from = omega (arith, w.from, c.rest_at-2.ensures.from); name_to = w.up; before = omega (arith, w.inside, (blank_at_took c.blank_at-c3.ensures).up, (type_took c.struct_word-word.ensures.read c.struct_word-word.result.kind c.struct_word-word.ensures.means _ _ _ _ c.in_ok-code.ensures c.rest_at-3.ensures).up); few_flags = fits c.keywords_set-set.ensures })
