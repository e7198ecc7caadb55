use Rattle.matter_idl.proofs.bits.Laws.{bit_set}
use Rattle.matter_idl.proofs.bits.Bits.set.Goals as goal

pub returns : goal.returns
returns c = rw (← c.self.view_is) (bit_set _ _ c.self.told c.requires)
