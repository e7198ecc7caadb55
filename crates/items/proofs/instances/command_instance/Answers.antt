use native.Mathlib.Omega.{arith}
use Rattle.lexing.specs.bytes.{ascii}
use Rattle.lexing.specs.names.{named_after}
use Rattle.items.specs.declared.layout.Kind.TheVariants.{CommandInstance}
use Rattle.items.proofs.instances.Laws.{named_is}
use Rattle.items.proofs.instances.command_instance.Goals as goal

pub returns : goal.returns
returns c = named_is _ _ CommandInstance (omega arith) (named_after (ascii "handle") (ascii "command")) c.named_after.result c.named_after.ensures c.named_instance.ensures
