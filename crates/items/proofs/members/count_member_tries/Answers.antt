use Rattle.items.specs.answers.{maturity_number}
use Rattle.lexing.specs.answers.{doc_of}
use Rattle.items.proofs.members.Laws.{member_counted}
use Rattle.items.proofs.members.count_member_tries.Goals as goal

pub count_member_of_kind-r-requires : goal.count_member_of_kind-r-requires
count_member_of_kind-r-requires c = record { part_bound = c.requires.part_bound; member_from = c.member_kind-k.ensures.goes }

pub returns : goal.returns
returns c = member_counted (doc_of c.args.doc) (maturity_number c.args.maturity) _ _ c.member_kind-k.result c.count_member_of_kind-r.result _ c.member_kind-k.ensures c.count_member_of_kind-r.ensures c.fail_no_earlier.ensures
