use Rattle.std.proofs.Common.{rules}
use Rattle.matter_idl.specs.inner.filter.{hash_of}
use Rattle.matter_idl.proofs.filter.hash_of.Goals as goal

pub returns : goal.returns
unfolding hash_of
returns c = search rules
