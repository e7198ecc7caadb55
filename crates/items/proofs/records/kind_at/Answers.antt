use native.Mathlib.Omega.{arith}
use Rattle.items.proofs.records.Laws.{kind_byte}
use Rattle.items.proofs.records.kind_at.Goals as goal

pub returns : goal.returns
returns c = kind_byte _ (λ i. omega (arith, c.shared_slice_known-1.given i)) _ c.requires
