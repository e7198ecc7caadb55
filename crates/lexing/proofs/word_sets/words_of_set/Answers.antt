use mathlib.Core.Path.{refl, sym, ap, ◌∙◌}
use Rattle.lexing.specs.bytes.{lower}
use Rattle.lexing.specs.answers.{set_of}
use Rattle.lexing.specs.inner.word_sets.{initial}
use native.Mathlib.Omega.{arith}
use Rattle.lexing.proofs.word_sets.Laws.{set_most, set_start, set_no_start, set_no_initial, start_took, walk_start, walk_end, walk_more, walk_found, walk_again, table_size, table_key, table_end}
use Rattle.lexing.proofs.word_sets.words_of_set.Goals as goal

pub words-init : goal.words-init
words-init c = set_start _ _ _

pub rest_at-rest-requires : goal.rest_at-rest-requires
rest_at-rest-requires c = let t = (start_took _ c.word_start.result _ c.rest_at.ensures c.word_start.ensures c.in-Some.is) in omega (arith, t.up, t.inside, c.words.invariant.at.from)

pub loop-k-init : goal.loop-k-init
loop-k-init c = (walk_start c.words.invariant (start_took _ c.word_start.result _ c.rest_at.ensures c.word_start.ensures c.in-Some.is) c.rest_at-rest.ensures, refl)

pub keyword_end-end-requires-clause-key_value : goal.keyword_end-end-requires-clause-key_value
keyword_end-end-requires-clause-key_value c = table_key _ _ c.keywords_of-keywords.ensures _ _ c.loop-k-test.true

pub is_lower-requires : goal.is_lower-requires
is_lower-requires c = omega (arith, (walk_found c.loop-k.invariant.0 (table_size _ _ c.keywords_of-keywords.ensures) c.loop-k-test.true (table_end _ _ c.keywords_of-keywords.ensures _ _ c.loop-k-test.true c.keyword_end-end.ensures) c.if-start-end.true).inside)

pub with_flag-flags-requires : goal.with_flag-flags-requires
with_flag-flags-requires c = record { flags_bound = omega (arith, c.loop-k.invariant.0.set.small); others_bound = omega (arith, set_most c.args.set, table_size _ _ c.keywords_of-keywords.ensures) }

pub words-smaller : goal.words-smaller
words-smaller c = let h = (walk_again c.loop-k.invariant.0 (table_size _ _ c.keywords_of-keywords.ensures) c.loop-k-test.true (table_end _ _ c.keywords_of-keywords.ensures _ _ c.loop-k-test.true c.keyword_end-end.ensures) c.if-start-end.true _ _ _ refl c.is_lower.ensures c.with_flag-flags.ensures) in omega (arith, h.1, h.0.at.inside, c.loop-k.invariant.1)

pub words-preserved : goal.words-preserved
words-preserved c = (walk_again c.loop-k.invariant.0 (table_size _ _ c.keywords_of-keywords.ensures) c.loop-k-test.true (table_end _ _ c.keywords_of-keywords.ensures _ _ c.loop-k-test.true c.keyword_end-end.ensures) c.if-start-end.true _ _ _ refl c.is_lower.ensures c.with_flag-flags.ensures).0

pub loop-k-preserved : goal.loop-k-preserved
loop-k-preserved c = (walk_more c.loop-k.invariant.0 (table_size _ _ c.keywords_of-keywords.ensures) c.loop-k-test.true (table_end _ _ c.keywords_of-keywords.ensures _ _ c.loop-k-test.true c.keyword_end-end.ensures) c.if-start-end.false, c.loop-k.invariant.1)

pub returns-in_default : goal.returns-in_default
returns-in_default c = set_no_start c.words.invariant c.word_start.result c.rest_at.ensures c.word_start.ensures c.in_default.is

pub returns-then-not-is_initial : goal.returns-then-not-is_initial
returns-then-not-is_initial c = set_no_initial c.words.invariant (start_took _ c.word_start.result _ c.rest_at.ensures c.word_start.ensures c.in-Some.is) c.rest_at-rest.ensures (ap (λ x. initial x (set_of c.args.set)) (sym (c.lower_of.ensures ∙ ap lower c.peek.ensures)) ∙ (sym c.is_initial.ensures ∙ c.if-not-is_initial.true))

pub returns-after-loop-k : goal.returns-after-loop-k
returns-after-loop-k c = walk_end c.loop-k.invariant.0 (table_size _ _ c.keywords_of-keywords.ensures) c.loop-k-test.false
