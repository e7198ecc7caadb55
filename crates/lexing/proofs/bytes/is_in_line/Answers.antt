use mathlib.Core.Logic.{inl, inr}
use borrow.Author.Tests.{ne_eqb}
use native.Mathlib.Omega.{arith}
use Rattle.lexing.specs.bytes.{in_line, lf, cr}
use Rattle.lexing.proofs.bytes.is_in_line.Goals.{in-10, in_default}
use Rattle.lexing.proofs.bytes.is_in_line.Goals as goal

pub returns : goal.returns
unfolding in_line
returns c =
    elim c.match-matches.branch [
      | in-10 w ↦ elim w.in-10.is [ inl e ↦ rw (w.matches-is, e) | inr e ↦ rw (w.matches-is, e) ]
      | in_default w ↦ rw (w.matches-is, ne_eqb c.args.x lf (λ e. grind arith), ne_eqb c.args.x cr (λ e. grind arith))
    ]

pub returns-then-x-gt13 : goal.returns-then-x-gt13
unfolding in_line
returns-then-x-gt13 c = rw (ne_eqb c.args.x lf (λ e. grind arith), ne_eqb c.args.x cr (λ e. grind arith))
