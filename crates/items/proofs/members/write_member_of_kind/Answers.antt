use Rattle.items.specs.answers.{maturity_number}
use mathlib.Core.Path.{refl}
use native.Mathlib.Omega.{arith}
use Rattle.lexing.specs.answers.{doc_of}
use Rattle.items.proofs.member_kinds.Laws.{from_kind}
use Rattle.items.proofs.clusters.Whole.{bitmaps, enums, structs, attributes, commands, events, kind_room, kind_written, revision_left, unknown_found}
use Rattle.items.proofs.members.write_member_of_kind.Goals as goal

pub write_choice-requires : goal.write_choice-requires
write_choice-requires c = record { part_bound = c.requires.part_bound; choice_from = from_kind c.args.k.from c.args.base c.args.part.now c.in-Bitmap.is c.requires.member_from; front_fits = record { place_fits = omega arith; doc_fits = c.requires.doc_fits }; room = kind_room (bitmaps (doc_of c.args.doc) (maturity_number c.args.maturity)) c.in-Bitmap.is _ _ c.requires.room; key_value = refl }

pub write_choice-requires-in-Enum : goal.write_choice-requires-in-Enum
write_choice-requires-in-Enum c = record { part_bound = c.requires.part_bound; choice_from = from_kind c.args.k.from c.args.base c.args.part.now c.in-Enum.is c.requires.member_from; front_fits = record { place_fits = omega arith; doc_fits = c.requires.doc_fits }; room = kind_room (enums (doc_of c.args.doc) (maturity_number c.args.maturity)) c.in-Enum.is _ _ c.requires.room; key_value = refl }

pub write_struct-requires : goal.write_struct-requires
write_struct-requires c = record { part_bound = c.requires.part_bound; struct_from = from_kind c.args.k.from c.args.base c.args.part.now c.in-Struct.is c.requires.member_from; front_fits = record { place_fits = omega arith; doc_fits = c.requires.doc_fits }; room = kind_room (structs (doc_of c.args.doc) (maturity_number c.args.maturity)) c.in-Struct.is _ _ c.requires.room }

pub write_attribute-requires : goal.write_attribute-requires
write_attribute-requires c = record { part_bound = c.requires.part_bound; front_fits = record { place_fits = omega arith; doc_fits = c.requires.doc_fits }; room = kind_room (attributes (doc_of c.args.doc) (maturity_number c.args.maturity)) c.in-Attribute.is _ _ c.requires.room }

pub write_command-requires : goal.write_command-requires
write_command-requires c = record { part_bound = c.requires.part_bound; front_fits = record { place_fits = omega arith; doc_fits = c.requires.doc_fits }; room = kind_room (commands (doc_of c.args.doc) (maturity_number c.args.maturity)) c.in-Command.is _ _ c.requires.room }

pub write_event-requires : goal.write_event-requires
write_event-requires c = record { part_bound = c.requires.part_bound; front_fits = record { place_fits = omega arith; doc_fits = c.requires.doc_fits }; room = kind_room (events (doc_of c.args.doc) (maturity_number c.args.maturity)) c.in-Event.is _ _ c.requires.room }

pub returns-in-Revision : goal.returns-in-Revision
returns-in-Revision c = revision_left (doc_of c.args.doc) (maturity_number c.args.maturity) c.in-Revision.is _ _ c.args.last c.parse_revision.result c.requires.room c.parse_revision.ensures c.revised.ensures

pub returns-in-Bitmap : goal.returns-in-Bitmap
returns-in-Bitmap c = kind_written (bitmaps (doc_of c.args.doc) (maturity_number c.args.maturity)) c.in-Bitmap.is _ _ c.args.last c.write_choice.ensures c.kept.ensures

pub returns-in-Enum : goal.returns-in-Enum
returns-in-Enum c = kind_written (enums (doc_of c.args.doc) (maturity_number c.args.maturity)) c.in-Enum.is _ _ c.args.last c.write_choice-in-Enum.ensures c.kept-in-Enum.ensures

pub returns-in-Struct : goal.returns-in-Struct
returns-in-Struct c = kind_written (structs (doc_of c.args.doc) (maturity_number c.args.maturity)) c.in-Struct.is _ _ c.args.last c.write_struct.ensures c.kept-in-Struct.ensures

pub returns-in-Attribute : goal.returns-in-Attribute
returns-in-Attribute c = kind_written (attributes (doc_of c.args.doc) (maturity_number c.args.maturity)) c.in-Attribute.is _ _ c.args.last c.write_attribute.ensures c.kept-in-Attribute.ensures

pub returns-in-Command : goal.returns-in-Command
returns-in-Command c = kind_written (commands (doc_of c.args.doc) (maturity_number c.args.maturity)) c.in-Command.is _ _ c.args.last c.write_command.ensures c.kept-in-Command.ensures

pub returns-in-Event : goal.returns-in-Event
returns-in-Event c = kind_written (events (doc_of c.args.doc) (maturity_number c.args.maturity)) c.in-Event.is _ _ c.args.last c.write_event.ensures c.kept-in-Event.ensures

pub returns-in-Unknown : goal.returns-in-Unknown
returns-in-Unknown c = absurd (unknown_found (doc_of c.args.doc) (maturity_number c.args.maturity) c.in-Unknown.is _ _ c.requires.room)
