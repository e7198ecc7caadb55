use Rattle.lexing.proofs.word_sets.Laws.{flag_off, flag_on}
use Rattle.lexing.proofs.word_sets.with_flag.Goals as goal

pub returns-else-counts : goal.returns-else-counts
returns-else-counts c = flag_off _ _ _ c.if-counts.false

pub returns-then-counts : goal.returns-then-counts
returns-then-counts c = flag_on _ _ _ c.if-counts.true c.requires.flags_bound c.requires.others_bound
