use lib.Bits.{bit_or}
use borrow.Author.Tests.{ne_eqb}
use mathlib.Core.Path.{sym, ap, ◌∙◌}
use native.Mathlib.Omega.{arith}
use Rattle.items.specs.inner.maturity.{is_initial}
use Rattle.items.proofs.maturity.Laws.{initial_folded}
use Rattle.items.proofs.maturity.is_initial.Goals as goal

pub returns-in-115 : goal.returns-in-115
returns-in-115 c = sym (ap is_initial c.in-115.is) ∙ (initial_folded c.args.x (omega arith))

pub returns-in-112 : goal.returns-in-112
returns-in-112 c = sym (ap is_initial c.in-112.is) ∙ (initial_folded c.args.x (omega arith))

pub returns-in-105 : goal.returns-in-105
returns-in-105 c = sym (ap is_initial c.in-105.is) ∙ (initial_folded c.args.x (omega arith))

pub returns-in-100 : goal.returns-in-100
returns-in-100 c = sym (ap is_initial c.in-100.is) ∙ (initial_folded c.args.x (omega arith))

pub returns-in_default : goal.returns-in_default
returns-in_default c = rw (ne_eqb (bit_or c.args.x 32) 100 (omega arith), ne_eqb (bit_or c.args.x 32) 105 (omega arith), ne_eqb (bit_or c.args.x 32) 112 (omega arith), ne_eqb (bit_or c.args.x 32) 115 (omega arith)) at (initial_folded c.args.x (omega arith))
