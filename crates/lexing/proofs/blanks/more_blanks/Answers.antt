use native.Mathlib.Omega.{arith}
use Rattle.lexing.proofs.blanks.Laws.{blanks_start, blanks_comment, blanks_again, blanks_end}
use Rattle.lexing.proofs.blanks.more_blanks.Goals as goal

pub loop-c-init : goal.loop-c-init
loop-c-init c = blanks_start _ _ _ c.requires.from_value

pub one_blank-requires : goal.one_blank-requires
one_blank-requires c = record { base_le_next = c.loop-c.invariant.run.from; next_bound = c.loop-c.invariant.run.inside; base_value = c.loop-c.invariant.following; part_bound = c.requires.part_bound }

pub returns : goal.returns
returns c = blanks_end _ _ _ c.loop-c.invariant c.in_default.ensures

pub skip_white-requires : goal.skip_white-requires
skip_white-requires c = let h = (blanks_comment c.args.base c.args.part.now _ c.loop-c.invariant _ c.in-Some.ensures).0 in record { base_le_at = h.from; at_bound = h.inside; part_bound = c.requires.part_bound }

pub loop-c-smaller : goal.loop-c-smaller
loop-c-smaller c = let h = blanks_again c.args.base c.args.part.now _ c.loop-c.invariant _ c.in-Some.ensures _ c.skip_white.ensures in omega (arith, h.1, h.0.run.inside)

pub loop-c-preserved : goal.loop-c-preserved
loop-c-preserved c = (blanks_again c.args.base c.args.part.now _ c.loop-c.invariant _ c.in-Some.ensures _ c.skip_white.ensures).0
