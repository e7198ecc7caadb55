use Rattle.items.specs.layout.{offset, size}
use Rattle.matter_idl.specs.demand_3.{bytes_at}
use Rattle.matter_idl.proofs.hoisting.name_at.Goals as goal
use mathlib.Core.Path.{◌≡◌, refl}
use Prim.Native.Nat.{◌+◌, ◌-◌}
use native.Mathlib.Omega.{arith}

pub returns : goal.returns
unfolding bytes_at offset size
returns c =
    let z : c.name_offset_at-start.result + c.name_length_at.result - c.name_offset_at-start.result ≡ c.name_length_at.result = omega arith in
    rw (z, c.name_offset_at-start.ensures, c.name_length_at.ensures) refl
