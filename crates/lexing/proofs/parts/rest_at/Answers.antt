use Rattle.lexing.proofs.Slicing.{rest_of}
use Rattle.lexing.proofs.parts.rest_at.Goals as goal

pub returns : goal.returns
returns c = rest_of c.args.base c.args.c c.args.part.now c.requires.0 c.requires.1
