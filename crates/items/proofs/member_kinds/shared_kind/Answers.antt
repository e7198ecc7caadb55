use mathlib.Core.Path.{refl}
use native.Mathlib.Omega.{arith}
use Rattle.lexing.specs.bytes.{ascii}
use Rattle.lexing.proofs.Slicing.{rest_self, keyword_took, blank_took}
use Rattle.items.proofs.member_kinds.Laws.{kind_alone, kind_bitmap, kind_enum, kind_struct, rest_starts, rest_frees}
use Rattle.items.proofs.member_kinds.shared_kind.Goals as goal

pub rest_at-requires : goal.rest_at-requires
rest_at-requires c = omega (arith, (keyword_took (rest_self _ _) (ascii "shared") c.requires.part_value_2).up, (keyword_took (rest_self _ _) (ascii "shared") c.requires.part_value_2).inside)

pub whitespace0-w-requires : goal.whitespace0-w-requires
whitespace0-w-requires c = omega (arith, c.rest_at.ensures.size, c.requires.part_bound)

pub returns-then-from-c1 : goal.returns-then-from-c1
returns-then-from-c1 c = kind_alone _ _ c.requires.part_value _ c.requires.part_value_2 c.rest_at.ensures _ c.whitespace0-w.ensures c.if-from-c1.true

pub rest_at-rest-requires : goal.rest_at-rest-requires
rest_at-rest-requires c = omega (arith, (blank_took c.rest_at.ensures c.whitespace0-w.ensures).up, (blank_took c.rest_at.ensures c.whitespace0-w.ensures).inside, c.rest_at.ensures.from)

pub starts-requires : goal.starts-requires
starts-requires c = record { part_bound = omega (arith, c.rest_at-rest.ensures.size, c.requires.part_bound); key_value = refl }

pub returns-then-starts : goal.returns-then-starts
returns-then-starts c = kind_bitmap _ _ c.requires.part_value _ c.requires.part_value_2 c.rest_at.ensures _ c.whitespace0-w.ensures c.if-from-c1.false (rest_starts c.rest_at-rest.ensures (ascii "bitmap") c.starts.ensures c.if-starts.true)

pub starts-requires-2 : goal.starts-requires-2
starts-requires-2 c = record { part_bound = omega (arith, c.rest_at-rest.ensures.size, c.requires.part_bound); key_value = refl }

pub returns-then-starts-2 : goal.returns-then-starts-2
returns-then-starts-2 c = kind_enum _ _ c.requires.part_value _ c.requires.part_value_2 c.rest_at.ensures _ c.whitespace0-w.ensures c.if-from-c1.false (rest_starts c.rest_at-rest.ensures (ascii "enum") c.starts-2.ensures c.if-starts-2.true)

pub returns : goal.returns
returns c = kind_struct _ _ c.requires.part_value _ c.requires.part_value_2 c.rest_at.ensures _ c.whitespace0-w.ensures c.if-from-c1.false (rest_frees c.rest_at-rest.ensures (ascii "bitmap") c.starts.ensures c.if-starts.false) (rest_frees c.rest_at-rest.ensures (ascii "enum") c.starts-2.ensures c.if-starts-2.false)
