use Rattle.items.specs.answers.{maturity_number}
use mathlib.Core.Path.{ap}
use mathlib.Core.List.{[], ◌∷◌}
use native.Mathlib.Omega.{arith}
use Rattle.lexing.specs.answers.{doc_of}
use Rattle.lexing.proofs.Slicing.{rest_self, walks}
use Rattle.lexing.proofs.Locality.{chain_inside}
use Rattle.items.specs.records.{Record}
use Rattle.lexing.proofs.AnswerLaws.{read_took}
use Rattle.items.proofs.Locality.{parse_command_inside}
use Rattle.items.proofs.writing.Laws.{read_room, read_written}
use Rattle.items.proofs.commands.Laws.{command_words, command_parts_is, command_in_limit}
use Rattle.items.proofs.commands.write_command.Goals as goal

pub put_command-requires-clause-command_kind_in_bounds : goal.put_command-requires-clause-command_kind_in_bounds
put_command-requires-clause-command_kind_in_bounds c = read_room (c.in-Ok.ensures.to (doc_of c.args.front.doc) (maturity_number c.args.front.maturity)).reads (command_words _) c.requires.room

pub put_command-requires-clause-command_between : goal.put_command-requires-clause-command_between
put_command-requires-clause-command_between c = let t = (c.in-Ok.ensures.to (doc_of c.args.front.doc) (maturity_number c.args.front.maturity)) in command_in_limit t.within (omega (arith, (read_took t (walks (chain_inside (parse_command_inside _ _))) (rest_self _ _)).inside, c.requires.part_bound))

pub returns : goal.returns
returns c = (read_written (c.in-Ok.ensures.to (doc_of c.args.front.doc) (maturity_number c.args.front.maturity)).reads (command_words _) (ap (λ (x : Record). x ∷ []) (command_parts_is c.args.front _ c.args.part.now _ _ (c.in-Ok.ensures.to (doc_of c.args.front.doc) (maturity_number c.args.front.maturity)).within (read_took (c.in-Ok.ensures.to (doc_of c.args.front.doc) (maturity_number c.args.front.maturity)) (walks (chain_inside (parse_command_inside _ _))) (rest_self _ _)).inside)) c.put_command.ensures)
