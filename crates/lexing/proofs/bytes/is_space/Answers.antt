use borrow.Author.Tests.{ne_eqb}
use native.Mathlib.Omega.{arith}
use Rattle.lexing.specs.bytes.{is_space, space, tab, lf, cr}
use Rattle.lexing.proofs.bytes.is_space.Goals as goal

pub returns-in-32 : goal.returns-in-32
unfolding is_space
returns-in-32 c = rw c.in-32.is

pub returns-in-9 : goal.returns-in-9
unfolding is_space
returns-in-9 c = rw c.in-9.is

pub returns-in-10 : goal.returns-in-10
unfolding is_space
returns-in-10 c = rw c.in-10.is

pub returns-in-13 : goal.returns-in-13
unfolding is_space
returns-in-13 c = rw c.in-13.is

pub returns-in_default : goal.returns-in_default
unfolding is_space
returns-in_default c = rw (ne_eqb c.args.x space (λ e. grind arith), ne_eqb c.args.x tab (λ e. grind arith), ne_eqb c.args.x lf (λ e. grind arith), ne_eqb c.args.x cr (λ e. grind arith))
