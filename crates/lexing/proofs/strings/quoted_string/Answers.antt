use Rattle.std.proofs.Common.{rules}
use Rattle.lexing.specs.strings.{annotation_escape, quoted_string}
use Rattle.lexing.proofs.strings.quoted_string.Goals as goal

pub returns : goal.returns
unfolding quoted_string
returns c = c.string_with.ensures annotation_escape (λ x r p. search rules)
