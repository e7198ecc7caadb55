use native.Mathlib.Omega.{arith}
use mathlib.Core.Path.{refl, sym, ap, ◌∙◌}
use mathlib.Core.List.{[], ◌∷◌}
use Rattle.lexing.specs.bytes.{ascii, lower}
use Rattle.lexing.specs.word_sets.{same_bytes}
use Rattle.items.specs.declared.member_kinds.MemberKind.TheVariants.{Bitmap, Enum, Struct, Attribute, Command, Event}
use Rattle.items.proofs.member_kinds.Laws.{starts_any, frees_all, at_word, at_letters, at_letter, at_either, at_third_letter, at_other_letter}
use Rattle.items.proofs.member_kinds.word_kind.Goals as goal

pub returns-then-starts : goal.returns-then-starts
unfolding same_bytes
returns-then-starts c = at_word _ _ c.requires.part_value Struct (ascii "fabric_scoped" ∷ []) refl (starts_any (ascii "fabric_scoped" ∷ []) _ _ (sym c.starts.ensures ∙ c.if-starts.true)) c.requires.part_value_2

pub returns-then-starts-2 : goal.returns-then-starts-2
unfolding same_bytes
returns-then-starts-2 c = at_word _ _ c.requires.part_value Attribute (ascii "timedwrite" ∷ []) refl (starts_any (ascii "timedwrite" ∷ []) _ _ (sym c.starts-in-116.ensures ∙ c.if-starts-2.true)) c.requires.part_value_2

pub returns-in-97 : goal.returns-in-97
unfolding same_bytes
returns-in-97 c = at_letter _ _ c.requires.part_value Attribute (97 ∷ 110 ∷ 119 ∷ []) refl _ c.in-97.is (ap lower (sym c.peek.ensures) ∙ sym c.lower_of-x.ensures) c.requires.part_value_2

pub returns-in-98 : goal.returns-in-98
unfolding same_bytes
returns-in-98 c = at_letter _ _ c.requires.part_value Bitmap (98 ∷ []) refl _ c.in-98.is (ap lower (sym c.peek.ensures) ∙ sym c.lower_of-x.ensures) c.requires.part_value_2

pub returns-in-99 : goal.returns-in-99
unfolding same_bytes
returns-in-99 c = at_either _ _ c.requires.part_value Event Command (ascii "critical") 99 [] refl refl ((ap lower (sym c.peek.ensures) ∙ sym c.lower_of-x.ensures) ∙ c.in-99.is) tt c.requires.part_value_2 c.event_or_command.ensures

pub returns-in-100 : goal.returns-in-100
unfolding same_bytes
returns-in-100 c = at_letter _ _ c.requires.part_value Event (100 ∷ 105 ∷ []) refl _ c.in-100.is (ap lower (sym c.peek.ensures) ∙ sym c.lower_of-x.ensures) c.requires.part_value_2

pub returns-in-101 : goal.returns-in-101
unfolding same_bytes
returns-in-101 c = at_letter _ _ c.requires.part_value Enum (101 ∷ []) refl _ c.in-101.is (ap lower (sym c.peek.ensures) ∙ sym c.lower_of-x.ensures) c.requires.part_value_2

pub returns-else-starts : goal.returns-else-starts
unfolding same_bytes
returns-else-starts c = at_either _ _ c.requires.part_value Event Command (ascii "fabric_sensitive") 102 (ascii "fabric_scoped" ∷ []) refl refl ((ap lower (sym c.peek.ensures) ∙ sym c.lower_of-x.ensures) ∙ c.in-102.is) (frees_all (ascii "fabric_scoped" ∷ []) _ _ (sym c.starts.ensures ∙ c.if-starts.false)) c.requires.part_value_2 c.event_or_command-in-102.ensures

pub returns-in-114 : goal.returns-in-114
returns-in-114 c = rw c.third_letter_kind.ensures (at_third_letter _ _ c.requires.part_value _ ((ap lower (sym c.peek.ensures) ∙ sym c.lower_of-x.ensures) ∙ c.in-114.is) (ap lower (sym c.peek-in-114.ensures) ∙ sym c.lower_of.ensures) c.requires.part_value_2)

pub returns-in-115 : goal.returns-in-115
unfolding same_bytes
returns-in-115 c = at_letter _ _ c.requires.part_value Struct (115 ∷ []) refl _ c.in-115.is (ap lower (sym c.peek.ensures) ∙ sym c.lower_of-x.ensures) c.requires.part_value_2

pub returns-else-starts-2 : goal.returns-else-starts-2
unfolding same_bytes
returns-else-starts-2 c = at_letters _ _ c.requires.part_value Command ((0, 116) ∷ []) (ascii "timedwrite" ∷ []) refl ((ap lower (sym c.peek.ensures) ∙ sym c.lower_of-x.ensures) ∙ c.in-116.is, tt) (frees_all (ascii "timedwrite" ∷ []) _ _ (sym c.starts-in-116.ensures ∙ c.if-starts-2.false)) c.requires.part_value_2

pub returns-in_default : goal.returns-in_default
returns-in_default c = at_other_letter _ _ c.requires.part_value ((116 ∷ []) ∷ (115 ∷ []) ∷ (114 ∷ []) ∷ (102 ∷ []) ∷ (101 ∷ []) ∷ (100 ∷ 105 ∷ []) ∷ (99 ∷ []) ∷ (98 ∷ []) ∷ (97 ∷ 110 ∷ 119 ∷ []) ∷ []) refl _ (((((((((tt, omega arith), omega arith), omega arith), omega arith), omega arith), omega arith), omega arith), omega arith), omega arith) (ap lower (sym c.peek.ensures) ∙ sym c.lower_of-x.ensures) c.requires.part_value_2
