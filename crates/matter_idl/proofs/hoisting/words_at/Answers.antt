use mathlib.Core.Path.{sym, ap, ◌∙◌}
use Rattle.items.specs.layout.{layout, words_of_kind}
use Rattle.matter_idl.proofs.hoisting.words_at.Goals as goal

pub returns-then-here-kind : goal.returns-then-here-kind
returns-then-here-kind c = c.requires.own_value ∙ ap (words_of_kind layout) (sym c.if-here-kind.true ∙ c.kind_at-here.ensures)

pub returns : goal.returns
returns c = c.words_of.ensures ∙ ap (words_of_kind layout) c.kind_at-here.ensures
