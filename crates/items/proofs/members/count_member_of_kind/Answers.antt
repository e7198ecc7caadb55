use Rattle.items.specs.answers.{maturity_number}
use mathlib.Core.Path.{refl}
use Rattle.lexing.specs.answers.{doc_of}
use Rattle.items.proofs.member_kinds.Laws.{from_kind}
use Rattle.items.proofs.members.Laws.{kind_counts, counts_revision, counts_bitmap, counts_enum, counts_struct, counts_attribute, counts_command, counts_event, counts_unknown}
use Rattle.items.proofs.members.count_member_of_kind.Goals as goal

pub count_choice-requires : goal.count_choice-requires
count_choice-requires c = record { part_bound = c.requires.part_bound; choice_from = from_kind c.args.k.from c.args.base c.args.part.now c.in-Bitmap.is c.requires.member_from; key_value = refl }

pub count_choice-requires-in-Enum : goal.count_choice-requires-in-Enum
count_choice-requires-in-Enum c = record { part_bound = c.requires.part_bound; choice_from = from_kind c.args.k.from c.args.base c.args.part.now c.in-Enum.is c.requires.member_from; key_value = refl }

pub count_struct-requires : goal.count_struct-requires
count_struct-requires c = record { part_bound = c.requires.part_bound; struct_from = from_kind c.args.k.from c.args.base c.args.part.now c.in-Struct.is c.requires.member_from }

pub returns-in-Revision : goal.returns-in-Revision
returns-in-Revision c = kind_counts (doc_of c.args.doc) (maturity_number c.args.maturity) _ _ c.in-Revision.is (counts_revision (doc_of c.args.doc) (maturity_number c.args.maturity) _ _ c.count_revision.ensures)

pub returns-in-Bitmap : goal.returns-in-Bitmap
returns-in-Bitmap c = kind_counts (doc_of c.args.doc) (maturity_number c.args.maturity) _ _ c.in-Bitmap.is (counts_bitmap (doc_of c.args.doc) (maturity_number c.args.maturity) _ _ c.count_choice.ensures)

pub returns-in-Enum : goal.returns-in-Enum
returns-in-Enum c = kind_counts (doc_of c.args.doc) (maturity_number c.args.maturity) _ _ c.in-Enum.is (counts_enum (doc_of c.args.doc) (maturity_number c.args.maturity) _ _ c.count_choice-in-Enum.ensures)

pub returns-in-Struct : goal.returns-in-Struct
returns-in-Struct c = kind_counts (doc_of c.args.doc) (maturity_number c.args.maturity) _ _ c.in-Struct.is (counts_struct (doc_of c.args.doc) (maturity_number c.args.maturity) _ _ c.count_struct.ensures)

pub returns-in-Attribute : goal.returns-in-Attribute
returns-in-Attribute c = kind_counts (doc_of c.args.doc) (maturity_number c.args.maturity) _ _ c.in-Attribute.is (counts_attribute (doc_of c.args.doc) (maturity_number c.args.maturity) _ _ (c.count_attribute.ensures.counts (record { kind = 0; place = 0; doc = doc_of c.args.doc; maturity = (maturity_number c.args.maturity) })))

pub returns-in-Command : goal.returns-in-Command
returns-in-Command c = kind_counts (doc_of c.args.doc) (maturity_number c.args.maturity) _ _ c.in-Command.is (counts_command (doc_of c.args.doc) (maturity_number c.args.maturity) _ _ (c.count_command.ensures.counts (record { kind = 0; place = 0; doc = doc_of c.args.doc; maturity = (maturity_number c.args.maturity) })))

pub returns-in-Event : goal.returns-in-Event
returns-in-Event c = kind_counts (doc_of c.args.doc) (maturity_number c.args.maturity) _ _ c.in-Event.is (counts_event (doc_of c.args.doc) (maturity_number c.args.maturity) _ _ c.count_event.ensures)

pub returns-in-Unknown : goal.returns-in-Unknown
returns-in-Unknown c = kind_counts (doc_of c.args.doc) (maturity_number c.args.maturity) _ _ c.in-Unknown.is (counts_unknown (doc_of c.args.doc) (maturity_number c.args.maturity) _ _)
