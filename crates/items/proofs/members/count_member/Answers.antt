use Rattle.items.specs.answers.{maturity_number}
use mathlib.Core.Path.{refl}
use native.Mathlib.Omega.{arith}
use Rattle.lexing.specs.answers.{doc_of}
use Rattle.lexing.proofs.Slicing.{rest_self, begin, go, on, blank_took}
use Rattle.lexing.proofs.steps.Laws.{rest_clear}
use Rattle.items.specs.clusters.{member_tries, parse_cluster_member}
use Rattle.items.proofs.maturity.Laws.{blanked, between_clear}
use Rattle.items.proofs.counts.Laws.{count_after}
use Rattle.items.proofs.members.Laws.{member_tries_on}
use Rattle.items.proofs.members.count_member.Goals as goal

pub rest_at-requires : goal.rest_at-requires
rest_at-requires c = omega (arith, c.whitespace0-w1.ensures.up, c.whitespace0-w1.ensures.inside)

pub maturity_between-maturity-requires : goal.maturity_between-maturity-requires
maturity_between-maturity-requires c = omega (arith, c.rest_at.ensures.size, c.requires)

pub rest_at-requires-2 : goal.rest_at-requires-2
rest_at-requires-2 c = let m = c.maturity_between-maturity.ensures in omega (arith, m.up, m.inside, c.rest_at.ensures.from, c.rest_at.ensures.size)

pub count_member_tries-requires : goal.count_member_tries-requires
count_member_tries-requires c = record { part_bound = omega (arith, c.rest_at-2.ensures.size, c.requires); part_value = rest_clear (blanked c.rest_at.ensures (between_clear (rest_clear (blank_took (rest_self _ _) c.whitespace0-w1.ensures) c.rest_at.ensures) c.maturity_between-maturity.ensures)).blanks c.rest_at-2.ensures }

pub returns : goal.returns
unfolding parse_cluster_member
returns c = let m = (blanked c.rest_at.ensures (between_clear (rest_clear (blank_took (rest_self _ _) c.whitespace0-w1.ensures) c.rest_at.ensures) c.maturity_between-maturity.ensures)) in record { counts = λ p. count_after _ parse_cluster_member (member_tries (doc_of c.whitespace0-w1.result.doc) (maturity_number c.maturity_between-maturity.result.0)) (member_tries_on (doc_of c.whitespace0-w1.result.doc) (maturity_number c.maturity_between-maturity.result.0)) c.count_member_tries.result c.rest_at-2.ensures (begin parse_cluster_member _ _ (go _ (blank_took (rest_self _ _) c.whitespace0-w1.ensures) (go _ m.said (on _ m.blanks refl)))) (c.count_member_tries.ensures.counts p) }
