use mathlib.Core.Path.{refl}
use native.Mathlib.Omega.{arith}
use Rattle.items.specs.layout.{kind_field, place_field, layout}
use Rattle.items.specs.stored.{value_at}
use Rattle.matter_idl.proofs.filter.Laws.{grown_same}
use Rattle.matter_idl.proofs.hoisting.Laws.{other_placed, other_unmarked}
use Rattle.matter_idl.proofs.hoisting.Marking.{mark_room, mark_kept, mark_elsewhere}
use Rattle.matter_idl.proofs.hoisting.mark_at.Goals as goal

pub kind_at-kind-requires : goal.kind_at-kind-requires
kind_at-kind-requires c = (mark_room _ c.args.text.fits c.requires)

pub place_at-requires : goal.place_at-requires
place_at-requires c = (mark_room _ c.args.text.fits c.requires)

pub returns-then-not-may_be_type-clause-marked_to : goal.returns-then-not-may_be_type-clause-marked_to
returns-then-not-may_be_type-clause-marked_to c = λ m. mark_kept _ c.args.text.fits m (other_unmarked c.may_be_type.result (value_at layout kind_field c.args.out.now c.args.at) (value_at layout place_field c.args.out.now c.args.at) (rw (c.kind_at-kind.ensures, c.place_at.ensures) at c.may_be_type.ensures) c.if-not-may_be_type.true _) (grown_same _) refl (mark_elsewhere _ c.args.text.fits m (λ e. omega (arith, other_placed c.may_be_type.result (value_at layout kind_field c.args.out.now c.args.at) (value_at layout place_field c.args.out.now c.args.at) (rw (c.kind_at-kind.ensures, c.place_at.ensures) at c.may_be_type.ensures) c.if-not-may_be_type.true, e)))
