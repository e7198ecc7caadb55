use native.Mathlib.Omega.{arith}
use Rattle.items.proofs.records.Laws.{place_byte}
use Rattle.items.proofs.records.place_at.Goals as goal

pub returns : goal.returns
returns c = place_byte _ (λ i. omega (arith, c.shared_slice_known-1.given i)) _ c.requires
