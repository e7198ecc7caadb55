use mathlib.Core.Path.{ap}
use Rattle.token_exports.specs.exports.{following}
use Rattle.token_exports.proofs.token_blanks.Goals as goal

pub returns : goal.returns
unfolding following
returns c = ap following c.whitespace0-b.ensures.reads
