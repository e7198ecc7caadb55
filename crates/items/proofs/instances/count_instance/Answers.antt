use Rattle.lexing.proofs.Losses.{passed_on}
use native.Mathlib.Omega.{arith}
use mathlib.Core.List.{[], ◌∷◌}
use Rattle.items.specs.endpoints.{Instance, instance_tries}
use Rattle.items.specs.records.{instance_record}
use Rattle.items.proofs.Deep.{tried_not}
use Rattle.items.proofs.instances.Laws.{attribute_words, named_words, instance_counted}
use Rattle.items.proofs.instances.count_instance.Goals as goal

pub returns-in_err-instance : goal.returns-in_err-instance
returns-in_err-instance c = rw (passed_on c.from_residual.ensures) (tried_not (λ (i : Instance). instance_record i ∷ []) instance_tries _ c.in_err-instance.ensures.reads)

pub returns-in-Attribute : goal.returns-in-Attribute
returns-in-Attribute c = instance_counted _ _ (rw c.in-Attribute.is at c.in_ok-instance.ensures) (attribute_words _) (omega arith)

pub returns-in-Named : goal.returns-in-Named
returns-in-Named c = let h = rw c.in-Named.is at c.in_ok-instance.ensures in instance_counted _ _ h (named_words _ h.within.0) (omega arith)
