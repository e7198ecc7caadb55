use mathlib.Core.Path.{sym, ◌∙◌}
use Rattle.lexing.proofs.Slicing.{rest_self}
use Rattle.lexing.proofs.steps.Laws.{rest_clear}
use Rattle.items.proofs.maturity.Laws.{blanked}
use Rattle.items.proofs.items.Laws.{start_endpoint, start_cluster, start_type}
use Rattle.items.proofs.items.declaration_start.Goals as goal

pub returns-then-starts : goal.returns-then-starts
returns-then-starts c = start_endpoint _ _ c.requires.part_value (sym c.starts.ensures ∙ c.if-starts.true)

pub returns-then-starts_cluster : goal.returns-then-starts_cluster
returns-then-starts_cluster c = start_cluster _ _ c.requires.part_value (sym c.starts.ensures ∙ c.if-starts.false) _ (blanked (rest_self _ _) c.maturity_blank-maturity.ensures).said (blanked (rest_self _ _) c.maturity_blank-maturity.ensures).blanks c.rest_at.ensures c.starts_cluster.ensures c.if-starts_cluster.true

pub member_kind-k-requires-clause-part_value : goal.member_kind-k-requires-clause-part_value
member_kind-k-requires-clause-part_value c = rest_clear (blanked (rest_self _ _) c.maturity_blank-maturity.ensures).blanks c.rest_at-2.ensures

pub returns : goal.returns
returns c = start_type _ _ c.requires.part_value (sym c.starts.ensures ∙ c.if-starts.false) _ (blanked (rest_self _ _) c.maturity_blank-maturity.ensures).said (blanked (rest_self _ _) c.maturity_blank-maturity.ensures).blanks c.rest_at.ensures c.starts_cluster.ensures c.if-starts_cluster.false c.rest_at-2.ensures c.member_kind-k.ensures c.type_kind.ensures
