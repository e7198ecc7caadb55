use Rattle.std.proofs.Common.{rules}
use mathlib.Core.Path.{ap}
use native.Mathlib.Omega.{arith}
use Prim.Native.Nat.{◌+◌}
use Rattle.lexing.specs.bytes.{is_space}
use Rattle.lexing.proofs.Scans.{run_le}
use Rattle.lexing.proofs.blanks.Laws.{blanks_alone}
use Rattle.lexing.proofs.blanks.blank_run.Goals as goal

pub overflow_add-next : goal.overflow_add-next
overflow_add-next c = omega (arith, (c.run_length-n.ensures is_space (λ x r p. search rules)), run_le is_space c.rest_at-rest.result.now, c.rest_at-rest.ensures.size, c.requires.1)

pub more_blanks-requires : goal.more_blanks-requires
more_blanks-requires c = record { part_bound = omega (arith, c.rest_at-rest.ensures.size, c.requires.1); from_value = ap (λ n. c.args.c + n) (c.run_length-n.ensures is_space (λ x r p. search rules)) }

pub returns-then-peek-eq47 : goal.returns-then-peek-eq47
returns-then-peek-eq47 c = rw c.rest_at-rest.ensures.same at c.more_blanks.ensures

pub returns : goal.returns
returns c = (rw c.rest_at-rest.ensures.same at (blanks_alone c.args.c _ _ (c.run_length-n.ensures is_space (λ x r p. search rules)) _ c.peek.ensures c.if-peek-eq47.false))
