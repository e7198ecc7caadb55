use Rattle.std.proofs.Common.{rules}
use mathlib.Core.Path.{◌∙◌, ap}
use native.Mathlib.Omega.{arith}
use Prim.Native.Nat.{◌+◌}
use lib.ListN.{length}
use Rattle.lexing.specs.bytes.{is_space, list_take_while}
use Rattle.lexing.proofs.Scans.{run_le}
use Rattle.lexing.proofs.blanks.skip_white.Goals as goal

pub overflow_add-result : goal.overflow_add-result
overflow_add-result c = omega (arith, (c.run_length-n.ensures is_space (λ x r p. search rules)), run_le is_space c.rest_at.result.now, c.rest_at.ensures.size)

pub returns : goal.returns
returns c = ap (λ n. c.args.at + n) ((c.run_length-n.ensures is_space (λ x r p. search rules)) ∙ ap (λ v. length (list_take_while is_space v)) c.rest_at.ensures.same)
