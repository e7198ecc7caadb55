use borrow.Author.Tests.{le-leb, lt-leb}
use native.Mathlib.Omega.{arith}
use Rattle.matter_idl.proofs.reading.Judged.{verdict_long, verdict_short}
use Rattle.matter_idl.proofs.reading.verdict_on.Goals as goal

pub returns-then-text-gt-TEXT_LIMIT : goal.returns-then-text-gt-TEXT_LIMIT
returns-then-text-gt-TEXT_LIMIT c = verdict_long c.args.text.now (lt-leb _ _ c.if-text-gt-TEXT_LIMIT.true)

pub verdict_at-requires : goal.verdict_at-requires
verdict_at-requires c = omega (arith, c.if-text-gt-TEXT_LIMIT.false)

pub returns : goal.returns
returns c = verdict_short c.args.text.now (le-leb _ _ c.if-text-gt-TEXT_LIMIT.false) c.if-text-gt-TEXT_LIMIT.false c.verdict_at.result c.verdict_at.ensures
