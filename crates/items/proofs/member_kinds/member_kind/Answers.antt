use Rattle.lexing.specs.bytes.{ascii}
use mathlib.Core.Path.{sym}
use Rattle.items.proofs.Keywords.{keyword_missing}
use Rattle.items.proofs.member_kinds.member_kind.Goals as goal

pub word_kind-kind-requires : goal.word_kind-kind-requires
word_kind-kind-requires c = record { part_bound = c.requires.part_bound; part_value = c.requires.part_value; part_value_2 = sym (keyword_missing (ascii "shared") _ _ _ c.in_default.ensures) }

pub returns-in_default : goal.returns-in_default
returns-in_default c = c.word_kind-kind.ensures

pub shared_kind-requires : goal.shared_kind-requires
shared_kind-requires c = record { part_bound = c.requires.part_bound; part_value = c.requires.part_value; part_value_2 = c.in-Ok.ensures }

pub returns : goal.returns
returns c = c.shared_kind.ensures
