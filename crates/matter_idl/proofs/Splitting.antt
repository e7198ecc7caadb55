-- What reading and the survey write splits into its records, each with its own values at its offset.
use Prim.Native.Nat.{ℕ, ◌≤◌}
use mathlib.Core.Path.{◌≡◌}
use mathlib.Core.List.{List}
use lib.ListN.{length}
use Rattle.items.specs.items.{Item}
use Rattle.items.specs.layout.{layout, catalogue_bytes, text_limit}
use Rattle.items.specs.stored.{whole, split, laid_out}
use Rattle.items.proofs.RecordsFit.{layout_fits}
use Rattle.items.proofs.ReadBack.{split_written}
use Rattle.matter_idl.specs.hoisting.{no_ids, hoisted}
use Rattle.matter_idl.specs.reading.{accepted, verdict}
use Rattle.matter_idl.specs.sections.{sections}
use Rattle.matter_idl.specs.survey.{accepted_items}
use Rattle.matter_idl.proofs.Whole.{accepted_true}
use Rattle.matter_idl.proofs.ReportFits.{survey_fits}
use Rattle.matter_idl.proofs.hoisting.Marking.{hoisted_fits}

pub reading_splits : (u : List ℕ) (l : List Item) → verdict u ≡ accepted l → split layout (catalogue_bytes layout (hoisted no_ids l)) ≡ whole (laid_out layout 0 (hoisted no_ids l))
reading_splits u l e = let h = accepted_true u l e in split_written (layout_fits (length u) h.0) (hoisted no_ids l) (hoisted_fits u (length u) no_ids l h.1)

pub survey_splits : (u : List ℕ) → length u ≤ text_limit → split layout (catalogue_bytes layout (hoisted no_ids (accepted_items 0 (sections u)))) ≡ whole (laid_out layout 0 (hoisted no_ids (accepted_items 0 (sections u))))
survey_splits u h = split_written (layout_fits (length u) h) (hoisted no_ids (accepted_items 0 (sections u))) (survey_fits u)
