use Rattle.items.proofs.entries.Laws.{entry_wider}
use Rattle.items.proofs.entries.EntryPartsElement.write.Goals as goal

pub write_entry-requires-clause-entry_bounds : goal.write_entry-requires-clause-entry_bounds
write_entry-requires-clause-entry_bounds c = let w = c.requires.bounds in entry_wider w.1 w.2
