use mathlib.Core.Path.{◌∙◌}
use native.Mathlib.Omega.{arith}
use borrow.Author.Tests.{eq-eqb}
use Rattle.lexing.proofs.words.Laws.{key_same, key_folded}
use Rattle.lexing.proofs.words.is_key_byte.Goals as goal

pub returns-then-x-k : goal.returns-then-x-k
returns-then-x-k c = eq-eqb _ _ c.if-x-k.true ∙ key_same c.args.x c.args.k (omega arith) (omega arith) c.requires c.if-x-k.true

pub returns-else-x-k : goal.returns-else-x-k
returns-else-x-k c = key_folded c.args.x c.args.k (omega arith) (omega arith) c.requires c.if-x-k.false
