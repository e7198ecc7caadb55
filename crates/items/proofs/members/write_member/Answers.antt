use native.Mathlib.Omega.{arith}
use Rattle.lexing.specs.answers.{doc_of}
use Rattle.lexing.proofs.Slicing.{rest_self}
use Rattle.lexing.proofs.steps.Laws.{rest_clear}
use Rattle.items.proofs.maturity.Laws.{blanked, between_clear}
use Rattle.items.proofs.clusters.Whole.{left_room, after_room, after_written}
use Rattle.items.proofs.members.write_member.Goals as goal

pub rest_at-rest-requires : goal.rest_at-rest-requires
rest_at-rest-requires c = let m = c.maturity_between-maturity.ensures in omega (arith, m.up, m.inside)

pub member_kind-k-requires : goal.member_kind-k-requires
member_kind-k-requires c = record { part_bound = omega (arith, c.rest_at-rest.ensures.size, c.requires.part_bound); part_value = rest_clear (blanked (rest_self _ _) (between_clear c.requires.part_value c.maturity_between-maturity.ensures)).blanks c.rest_at-rest.ensures }

pub write_member_of_kind-requires : goal.write_member_of_kind-requires
write_member_of_kind-requires c = record { part_bound = omega (arith, c.rest_at-rest.ensures.size, c.requires.part_bound); member_from = c.member_kind-k.ensures.goes; doc_fits = c.requires.doc_fits; room = (left_room c.member_kind-k.ensures (doc_of c.args.doc) _ (after_room (doc_of c.args.doc) (blanked (rest_self _ _) (between_clear c.requires.part_value c.maturity_between-maturity.ensures)).said (blanked (rest_self _ _) (between_clear c.requires.part_value c.maturity_between-maturity.ensures)).blanks c.rest_at-rest.ensures c.requires.room)) }

pub returns : goal.returns
returns c = after_written (doc_of c.args.doc) (blanked (rest_self _ _) (between_clear c.requires.part_value c.maturity_between-maturity.ensures)).said (blanked (rest_self _ _) (between_clear c.requires.part_value c.maturity_between-maturity.ensures)).blanks c.rest_at-rest.ensures c.member_kind-k.ensures c.write_member_of_kind.ensures
