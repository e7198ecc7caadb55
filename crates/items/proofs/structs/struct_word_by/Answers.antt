use native.Mathlib.Omega.{arith}
use Rattle.lexing.proofs.Slicing.{rest_self, keyword_took}
use Rattle.items.proofs.Keywords.{keyword_missing}
use Rattle.items.proofs.structs.Laws.{word_is, word_none}
use Rattle.items.proofs.structs.struct_word_by.Goals as goal

pub blank_at-requires : goal.blank_at-requires
blank_at-requires c = omega (arith, c.requires.part_bound)

pub returns-in_default : goal.returns-in_default
returns-in_default c = word_none c.args.key.now (keyword_missing c.args.key.now _ _ _ c.in_default.ensures) c.blank_at.ensures

pub overflow_sub-c : goal.overflow_sub-c
overflow_sub-c c = let k = (keyword_took (rest_self _ _) c.args.key.now c.in-Ok.ensures) in omega (arith, k.up)

pub kind_by-said-requires : goal.kind_by-said-requires
kind_by-said-requires c = let k = (keyword_took (rest_self _ _) c.args.key.now c.in-Ok.ensures) in omega (arith, k.up, k.inside)

pub blank_at-next-requires : goal.blank_at-next-requires
blank_at-next-requires c = let k = (keyword_took (rest_self _ _) c.args.key.now c.in-Ok.ensures) in omega (arith, k.up, k.inside, c.requires.part_bound)

pub returns : goal.returns
returns c = word_is c.args.key.now c.args.kind _ c.in-Ok.ensures c.requires.key_value c.kind_by-said.ensures c.blank_at-next.ensures
