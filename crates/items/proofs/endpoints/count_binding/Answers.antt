use Rattle.lexing.proofs.Losses.{passed_on}
use native.Mathlib.Omega.{arith}
use Rattle.items.specs.endpoints.{binding}
use Rattle.lexing.specs.words.{Word}
use Rattle.items.specs.records.{part_records}
use Rattle.items.proofs.Locality.{named_after_consumes}
use Rattle.items.proofs.counts.Laws.{read_counted, count_not}
use Rattle.items.proofs.endpoints.Laws.{binding_words}
use Rattle.items.proofs.endpoints.count_binding.Goals as goal

pub returns-in_err-c : goal.returns-in_err-c
returns-in_err-c c = rw (passed_on c.from_residual.ensures) (count_not (λ (n : Word). part_records (binding n)) _ _ _ _ c.in_err-c.ensures.reads)

pub returns : goal.returns
returns c = read_counted (λ (n : Word). part_records (binding n)) (named_after_consumes _ _) c.in_ok-c.ensures (binding_words _) (omega arith)
