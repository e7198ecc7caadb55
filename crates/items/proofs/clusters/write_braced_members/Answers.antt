use native.Mathlib.Omega.{arith}
use Rattle.lexing.proofs.Slicing.{rest_self, tag_took}
use Rattle.items.specs.clusters.{cluster_members}
use Rattle.items.proofs.Braces.{braces_open}
use Rattle.items.proofs.clusters.Whole.{members_room, members_written}
use Rattle.items.proofs.clusters.write_braced_members.Goals as goal

pub returns-in_default : goal.returns-in_default
returns-in_default c = absurd (braces_open cluster_members c.requires.room _ c.in_default.ensures)

pub rest_at-requires : goal.rest_at-requires
rest_at-requires c = omega (arith, (tag_took (rest_self _ _) 123 c.in-Ok.ensures).up, (tag_took (rest_self _ _) 123 c.in-Ok.ensures).inside)

pub write_members-requires-clause-room : goal.write_members-requires-clause-room
write_members-requires-clause-room c = members_room (tag_took (rest_self _ _) 123 c.in-Ok.ensures) c.rest_at.ensures c.requires.room

pub returns : goal.returns
returns c = members_written (tag_took (rest_self _ _) 123 c.in-Ok.ensures) c.rest_at.ensures c.write_members.ensures
