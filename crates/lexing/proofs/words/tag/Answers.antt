use native.Mathlib.Omega.{arith}
use Rattle.lexing.proofs.words.Laws.{tag_end, tag_yes, tag_no}
use Rattle.lexing.proofs.words.tag.Goals as goal

pub returns-then-part-eq0 : goal.returns-then-part-eq0
returns-then-part-eq0 c = tag_end _ _ _ (omega arith)

pub returns-then-part-t : goal.returns-then-part-t
returns-then-part-t c = tag_yes _ _ _ (omega arith) c.if-part-t.true

pub returns : goal.returns
returns c = tag_no _ _ _ (omega arith) c.if-part-t.false
