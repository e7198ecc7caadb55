-- The flags of each set of words, by the set's size.
use mathlib.Core.List.{List}
use Prim.Native.Nat.{ℕ, ◌<◌}
use Rattle.lexing.specs.word_sets.{field_set, struct_set, event_set, command_set, attribute_set}
use Rattle.lexing.specs.answers.{WordSetTo}
use Rattle.lexing.specs.declared.word_sets.KeywordSet.{KeywordSet}
use Rattle.lexing.specs.declared.word_sets.KeywordSet.TheVariants.{Field, Struct, Event, Command, Attribute, Empty}
use Rattle.lexing.specs.declared.word_sets.WordSet.{WordSet}
use Rattle.lexing.proofs.word_sets.Laws.{set_fits}

abbrev pub combinations : KeywordSet → ℕ
combinations Field = 8
combinations Struct = 2
combinations Event = 2
combinations Command = 4
combinations Attribute = 16
combinations Empty = 1

fits_of : (n : KeywordSet) {r : WordSet} {b : ℕ} {u : List ℕ} → WordSetTo r n b u → r.flags < combinations n
unfolding field_set struct_set event_set command_set attribute_set
fits_of Field h = set_fits h
fits_of Struct h = set_fits h
fits_of Event h = set_fits h
fits_of Command h = set_fits h
fits_of Attribute h = set_fits h
fits_of Empty h = set_fits h

pub fits : {n : KeywordSet} {r : WordSet} {b : ℕ} {u : List ℕ} → WordSetTo r n b u → r.flags < combinations n
fits {n} h = fits_of n h
