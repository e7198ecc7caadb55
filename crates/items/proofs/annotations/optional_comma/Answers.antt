use Rattle.lexing.proofs.Dropping.{opt_skips, tag_skips}
use Rattle.items.proofs.annotations.optional_comma.Goals as goal

pub returns : goal.returns
returns c = opt_skips c.tag.result (tag_skips 44 c.tag.result c.tag.ensures) c.optional.ensures
