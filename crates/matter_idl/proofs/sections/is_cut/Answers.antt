use mathlib.Core.Path.{refl}
use Rattle.matter_idl.specs.sections.{cut_after}
use Rattle.matter_idl.proofs.sections.is_cut.Goals as goal

pub returns : goal.returns
unfolding cut_after
returns c = refl
