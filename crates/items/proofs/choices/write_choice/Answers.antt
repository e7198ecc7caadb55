use mathlib.Core.Path.{refl}
use native.Mathlib.Omega.{arith}
use Rattle.lexing.proofs.Slicing.{rest_self}
use Rattle.items.specs.answers.{front_of}
use Rattle.lexing.proofs.AnswerLaws.{read_took, read_lost}
use Rattle.items.proofs.Headed.{headed_found, headed_room, headed_written}
use Rattle.items.proofs.writing.Laws.{written_same}
use Rattle.items.proofs.choices.Laws.{choice_head_onward, entries_list_onward, choice_headed, choice_first_is}
use Rattle.items.proofs.choices.write_choice.Goals as goal

pub returns-in_default : goal.returns-in_default
returns-in_default c = absurd (headed_found (choice_headed _) (front_of c.args.front) c.requires.room _ (read_lost c.in_default.ensures))

pub rest_at-requires : goal.rest_at-requires
rest_at-requires c = omega (arith, (read_took c.in-Ok.ensures (choice_head_onward _) (rest_self _ _)).up, (read_took c.in-Ok.ensures (choice_head_onward _) (rest_self _ _)).inside)

pub write_entries_list-w-requires-clause-room : goal.write_entries_list-w-requires-clause-room
write_entries_list-w-requires-clause-room c = (headed_room (choice_headed _) (front_of c.args.front) c.requires.room entries_list_onward (read_took c.in-Ok.ensures (choice_head_onward _) (rest_self _ _)) c.rest_at.ensures)

pub put_choice-requires-clause-enum_kind_in_bounds : goal.put_choice-requires-clause-enum_kind_in_bounds
put_choice-requires-clause-enum_kind_in_bounds c = let z = (headed_room (choice_headed _) (front_of c.args.front) c.requires.room entries_list_onward (read_took c.in-Ok.ensures (choice_head_onward _) (rest_self _ _)) c.rest_at.ensures) in let y = written_same z c.write_entries_list-w.ensures refl in omega (arith, z.fits, y)

pub returns : goal.returns
returns c = (headed_written (choice_headed _) (front_of c.args.front) c.requires.room entries_list_onward (read_took c.in-Ok.ensures (choice_head_onward _) (rest_self _ _)) c.rest_at.ensures c.write_entries_list-w.ensures refl (choice_first_is c.args.front c.args.key.now _ c.args.part.now _ _ _ c.in-Ok.ensures.within (read_took c.in-Ok.ensures (choice_head_onward _) (rest_self _ _)).inside) c.put_choice.ensures)
