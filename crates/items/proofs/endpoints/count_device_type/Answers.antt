use Rattle.lexing.proofs.Losses.{passed_on}
use native.Mathlib.Omega.{arith}
use Rattle.items.specs.endpoints.{DeviceType, device}
use Rattle.items.specs.records.{part_records}
use Rattle.items.proofs.Locality.{device_type_consumes}
use Rattle.items.proofs.counts.Laws.{read_counted, count_not}
use Rattle.items.proofs.endpoints.Laws.{device_words}
use Rattle.items.proofs.endpoints.count_device_type.Goals as goal

pub returns-in_err-c : goal.returns-in_err-c
returns-in_err-c c = rw (passed_on c.from_residual.ensures) (count_not (λ (t : DeviceType). part_records (device t)) _ _ _ _ c.in_err-c.ensures.reads)

pub returns : goal.returns
returns c = read_counted (λ (t : DeviceType). part_records (device t)) device_type_consumes c.in_ok-c.ensures (device_words _) (omega arith)
