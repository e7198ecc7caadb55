use Rattle.std.proofs.Common.{rules}
use Rattle.lexing.specs.strings.{default_escape, default_string}
use Rattle.lexing.proofs.strings.default_string.Goals as goal

pub returns : goal.returns
unfolding default_string
returns c = c.string_with.ensures default_escape (λ x r p. search rules)
