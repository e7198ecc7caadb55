use mathlib.Core.Path.{refl}
use native.Mathlib.Omega.{arith}
use Rattle.lexing.proofs.Slicing.{rest_self}
use Rattle.items.specs.answers.{front_of}
use Rattle.lexing.proofs.AnswerLaws.{read_took, read_lost}
use Rattle.items.proofs.Headed.{headed_found, headed_room, headed_written}
use Rattle.items.proofs.writing.Laws.{written_same}
use Rattle.items.proofs.clusters.Whole.{cluster_head_on, braced_members_on, cluster_headed, cluster_first_is}
use Rattle.items.proofs.clusters.write_cluster.Goals as goal

pub returns-in_default : goal.returns-in_default
returns-in_default c = absurd (headed_found cluster_headed (front_of c.args.front) c.requires.room _ (read_lost c.in_default.ensures))

pub rest_at-requires : goal.rest_at-requires
rest_at-requires c = omega (arith, (read_took c.in-Ok.ensures cluster_head_on (rest_self _ _)).up, (read_took c.in-Ok.ensures cluster_head_on (rest_self _ _)).inside)

pub write_braced_members-wrote-requires-clause-room : goal.write_braced_members-wrote-requires-clause-room
write_braced_members-wrote-requires-clause-room c = (headed_room cluster_headed (front_of c.args.front) c.requires.room braced_members_on (read_took c.in-Ok.ensures cluster_head_on (rest_self _ _)) c.rest_at.ensures)

pub put_cluster-requires-clause-cluster_kind_in_bounds : goal.put_cluster-requires-clause-cluster_kind_in_bounds
put_cluster-requires-clause-cluster_kind_in_bounds c = let z = (headed_room cluster_headed (front_of c.args.front) c.requires.room braced_members_on (read_took c.in-Ok.ensures cluster_head_on (rest_self _ _)) c.rest_at.ensures) in let y = written_same z c.write_braced_members-wrote.ensures.written refl in omega (arith, z.fits, y)

pub returns : goal.returns
returns c = (headed_written cluster_headed (front_of c.args.front) c.requires.room braced_members_on (read_took c.in-Ok.ensures cluster_head_on (rest_self _ _)) c.rest_at.ensures c.write_braced_members-wrote.ensures.written refl (cluster_first_is c.args.front _ c.args.part.now _ _ _ c.in-Ok.ensures.within (read_took c.in-Ok.ensures cluster_head_on (rest_self _ _)).inside c.write_braced_members-wrote.ensures.latest) c.put_cluster.ensures)
