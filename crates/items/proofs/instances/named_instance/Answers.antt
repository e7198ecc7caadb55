use mathlib.Core.Path.{sym, ap, ◌∙◌}
use Rattle.lexing.proofs.Losses.{passed_on}
use Rattle.items.specs.inner.instances.{named_instance}
use Rattle.items.proofs.instances.named_instance.Goals as goal

pub returns-in_err-named : goal.returns-in_err-named
returns-in_err-named c = passed_on c.from_residual.ensures ∙ sym (ap (named_instance c.args.kind) c.in_err-named.was)

pub returns : goal.returns
returns c = sym (ap (named_instance c.args.kind) c.in_ok-named.was)
