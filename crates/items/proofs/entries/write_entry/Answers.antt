use native.Mathlib.Omega.{arith}
use Rattle.items.proofs.entries.Laws.{entry_alone, entry_annotated}
use Rattle.items.proofs.entries.write_entry.Goals as goal

pub returns-then-e-eq0 : goal.returns-then-e-eq0
returns-then-e-eq0 c = entry_alone _ c.requires.entry_bounds (omega arith) _ _ c.put_entry.ensures c.if-e-eq0.true

pub returns : goal.returns
returns c = entry_annotated _ c.requires.entry_bounds (omega arith) _ _ c.put_entry.ensures c.rest_at.ensures c.requires.words_in_bounds c.write_entry_annotations.ensures
