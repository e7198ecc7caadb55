use Rattle.lexing.proofs.eights.Laws.{lacks_eight}
use Rattle.lexing.proofs.parts.eight_without.Goals as goal

pub returns : goal.returns
returns c = lacks_eight c.args.x c.args.part.now c.args.i _ _ (λ j. (c.shared_slice_known-1.given j).fits) c.eight_at.ensures c.bytes_other_than.ensures c.if-part-i-lt8.false
