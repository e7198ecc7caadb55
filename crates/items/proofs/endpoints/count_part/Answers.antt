use native.Mathlib.Omega.{arith}
use mathlib.Core.Path.{sym, ap, ◌∙◌}
use Rattle.lexing.specs.bytes.{ascii, lower}
use Rattle.lexing.specs.names.{named_after}
use Rattle.items.specs.endpoints.{device_type, cluster_instantiation, device, binding, instantiation, part_tries}
use Rattle.items.specs.records.{part_records}
use Rattle.items.proofs.Deep.{tried_by}
use Rattle.items.proofs.instances.Laws.{instantiation_alone, binding_alone, device_alone}
use Rattle.items.proofs.endpoints.count_part.Goals as goal

pub returns-in-115 : goal.returns-in-115
returns-in-115 c = tried_by part_records part_tries instantiation cluster_instantiation c.count_cluster_instantiation.result (instantiation_alone _ _ c.requires.part_value ((ap lower (sym c.peek.ensures) ∙ sym c.lower_of-x.ensures) ∙ c.in-115.is)) c.count_cluster_instantiation.ensures

pub returns-in-98 : goal.returns-in-98
returns-in-98 c = tried_by part_records part_tries binding (named_after (ascii "binding") (ascii "cluster")) c.count_binding.result (binding_alone _ _ c.requires.part_value ((ap lower (sym c.peek.ensures) ∙ sym c.lower_of-x.ensures) ∙ c.in-98.is)) c.count_binding.ensures

pub returns-in_default : goal.returns-in_default
returns-in_default c = tried_by part_records part_tries device device_type c.count_device_type.result (device_alone _ _ c.requires.part_value _ ((tt, omega arith), omega arith) (ap lower (sym c.peek.ensures) ∙ sym c.lower_of-x.ensures)) c.count_device_type.ensures
