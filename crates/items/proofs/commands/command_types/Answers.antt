use Rattle.lexing.proofs.Losses.{passed_on}
use Rattle.items.specs.members.{command_types}
use Rattle.lexing.proofs.names.Laws.{named_in, named_took, type_after_on}
use mathlib.Core.Path.{refl}
use native.Mathlib.Omega.{arith}
use Rattle.lexing.proofs.Slicing.{begin, go, on, done}
use Rattle.lexing.proofs.AnswerLaws.{read_is, read_not, read_lost}
use Rattle.lexing.proofs.Pairs.{pair_on, pair_fall, four_go, four_lose}
use Rattle.lexing.proofs.steps.Laws.{blank_at_took, tag_after_took, skips_lost}
use Rattle.items.proofs.commands.Laws.{optional_id_took}
use Rattle.items.proofs.commands.command_types.Goals as goal

pub returns-in_err-c1 : goal.returns-in_err-c1
unfolding command_types
returns-in_err-c1 c = rw (passed_on c.from_residual.ensures) (read_not _ (begin (command_types) _ _ (pair_fall _ _ _ _ c.in_err-c1.ensures.at (skips_lost c.in_err-c1.ensures))))

pub blank_at-input-requires : goal.blank_at-input-requires
blank_at-input-requires c = let t = tag_after_took 40 c.in_ok-c1.ensures in omega (arith, t.up, t.inside, c.requires)

pub optional_id-input_end-requires : goal.optional_id-input_end-requires
optional_id-input_end-requires c = let t = blank_at_took c.blank_at-input.ensures in omega (arith, t.up, t.inside, c.blank_at-input.ensures.at.from, c.requires)

pub tag_after-requires-2 : goal.tag_after-requires-2
tag_after-requires-2 c = let t = optional_id_took c.optional_id-input_end.ensures.at c.optional_id-input_end.ensures.reads in omega (arith, t.up, t.inside, c.optional_id-input_end.ensures.at.from, c.requires)

pub returns-in_err-c2 : goal.returns-in_err-c2
unfolding command_types
returns-in_err-c2 c = rw (passed_on c.from_residual-in_err-c2.ensures) (read_not _ (begin (command_types) _ _ (pair_on _ _ _ (tag_after_took 40 c.in_ok-c1.ensures) (on _ (blank_at_took c.blank_at-input.ensures) (go _ (optional_id_took c.optional_id-input_end.ensures.at c.optional_id-input_end.ensures.reads) (pair_fall _ _ _ _ c.in_err-c2.ensures.at (skips_lost c.in_err-c2.ensures)))))))

pub rest_at-requires : goal.rest_at-requires
rest_at-requires c = let t = tag_after_took 41 c.in_ok-c2.ensures in omega (arith, t.up, t.inside, c.in_ok-c2.ensures.at.from)

pub returns-in_err-output : goal.returns-in_err-output
unfolding command_types
returns-in_err-output c = rw (passed_on c.from_residual-in_err-output.ensures) (read_not _ (begin (command_types) _ _ (pair_on _ _ _ (tag_after_took 40 c.in_ok-c1.ensures) (on _ (blank_at_took c.blank_at-input.ensures) (go _ (optional_id_took c.optional_id-input_end.ensures.at c.optional_id-input_end.ensures.reads) (pair_on _ _ _ (tag_after_took 41 c.in_ok-c2.ensures) (four_lose _ _ _ _ _ _ c.rest_at.ensures (read_lost c.in_err-output.ensures))))))))

pub returns : goal.returns
unfolding command_types
returns c = read_is refl (begin (command_types) _ _ (pair_on _ _ _ (tag_after_took 40 c.in_ok-c1.ensures) (on _ (blank_at_took c.blank_at-input.ensures) (go _ (optional_id_took c.optional_id-input_end.ensures.at c.optional_id-input_end.ensures.reads) (pair_on _ _ _ (tag_after_took 41 c.in_ok-c2.ensures) (four_go _ _ _ _ _ (named_took c.in_ok-output.ensures type_after_on c.rest_at.ensures) (done _ _ _ _))))))) (let w = named_in c.in_ok-output.ensures in record { input_from = omega (arith, (blank_at_took c.blank_at-input.ensures).up, c.blank_at-input.ensures.at.from); input_to = (optional_id_took c.optional_id-input_end.ensures.at c.optional_id-input_end.ensures.reads).up; output_from = omega (arith, (tag_after_took 41 c.in_ok-c2.ensures).up, w.from); output_to = w.up; before = w.inside })
