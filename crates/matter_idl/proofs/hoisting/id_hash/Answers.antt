use Rattle.matter_idl.proofs.hoisting.id_hash.Goals as goal

pub returns : goal.returns
returns c = rw (c.kind_at.ensures, c.name_at.ensures) at c.hash_of.ensures
