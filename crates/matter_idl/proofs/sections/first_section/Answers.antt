use mathlib.Core.Path.{refl}
use Rattle.matter_idl.proofs.sections.Laws.{uncut_more, cut_found, cut_nowhere}
use Rattle.matter_idl.proofs.sections.first_section.Goals as goal

pub loop-i-init : goal.loop-i-init
loop-i-init c = c.cutless-i.ensures

pub is_cut-requires : goal.is_cut-requires
is_cut-requires c = record { le_i = c.loop-i.invariant.from; i_in_bounds = c.loop-i-test.true }

pub returns-then-is_cut : goal.returns-then-is_cut
returns-then-is_cut c = cut_found c.loop-i.invariant c.loop-i-test.true c.is_cut.ensures c.if-is_cut.true _ refl

pub loop-i-preserved : goal.loop-i-preserved
loop-i-preserved c = uncut_more c.loop-i.invariant c.loop-i-test.true c.is_cut.ensures c.if-is_cut.false

pub returns : goal.returns
returns c = cut_nowhere c.loop-i.invariant c.loop-i-test.false _ refl
