use Rattle.items.specs.answers.{maturity_number}
use Rattle.lexing.specs.answers.{doc_of}
use Rattle.items.proofs.Recorded.{recorded_room, recorded_written}
use Rattle.items.proofs.items.Laws.{from_kind, clusters, endpoints, enums, bitmaps, structs, of_kind, nothing_found}
use Rattle.items.proofs.items.write_declaration_of_kind.Goals as goal

pub write_cluster-requires-clause-room : goal.write_cluster-requires-clause-room
write_cluster-requires-clause-room c = recorded_room (of_kind (doc_of c.args.doc) (maturity_number c.args.s.maturity) c.in-Cluster.is (clusters (doc_of c.args.doc) (maturity_number c.args.s.maturity))) c.requires.room

pub write_endpoint-requires-clause-room : goal.write_endpoint-requires-clause-room
write_endpoint-requires-clause-room c = recorded_room (of_kind (doc_of c.args.doc) (maturity_number c.args.s.maturity) c.in-Endpoint.is (endpoints (doc_of c.args.doc) (maturity_number c.args.s.maturity))) c.requires.room

pub write_choice-requires-clause-room : goal.write_choice-requires-clause-room
write_choice-requires-clause-room c = recorded_room (of_kind (doc_of c.args.doc) (maturity_number c.args.s.maturity) c.in-Enum.is (enums (doc_of c.args.doc) (maturity_number c.args.s.maturity))) c.requires.room

pub write_choice-requires-in-Bitmap-clause-room : goal.write_choice-requires-in-Bitmap-clause-room
write_choice-requires-in-Bitmap-clause-room c = recorded_room (of_kind (doc_of c.args.doc) (maturity_number c.args.s.maturity) c.in-Bitmap.is (bitmaps (doc_of c.args.doc) (maturity_number c.args.s.maturity))) c.requires.room

pub write_struct-requires-clause-struct_from : goal.write_struct-requires-clause-struct_from
write_struct-requires-clause-struct_from c = from_kind c.args.s.from c.args.s.next c.args.part.now c.in-Struct.is c.requires.declaration_from

pub write_struct-requires-clause-room : goal.write_struct-requires-clause-room
write_struct-requires-clause-room c = recorded_room (of_kind (doc_of c.args.doc) (maturity_number c.args.s.maturity) c.in-Struct.is (structs (doc_of c.args.doc) (maturity_number c.args.s.maturity))) c.requires.room

pub returns-in-Cluster : goal.returns-in-Cluster
returns-in-Cluster c = recorded_written (of_kind (doc_of c.args.doc) (maturity_number c.args.s.maturity) c.in-Cluster.is (clusters (doc_of c.args.doc) (maturity_number c.args.s.maturity))) c.write_cluster.ensures

pub returns-in-Endpoint : goal.returns-in-Endpoint
returns-in-Endpoint c = recorded_written (of_kind (doc_of c.args.doc) (maturity_number c.args.s.maturity) c.in-Endpoint.is (endpoints (doc_of c.args.doc) (maturity_number c.args.s.maturity))) c.write_endpoint.ensures

pub returns-in-Enum : goal.returns-in-Enum
returns-in-Enum c = recorded_written (of_kind (doc_of c.args.doc) (maturity_number c.args.s.maturity) c.in-Enum.is (enums (doc_of c.args.doc) (maturity_number c.args.s.maturity))) c.write_choice.ensures

pub returns-in-Bitmap : goal.returns-in-Bitmap
returns-in-Bitmap c = recorded_written (of_kind (doc_of c.args.doc) (maturity_number c.args.s.maturity) c.in-Bitmap.is (bitmaps (doc_of c.args.doc) (maturity_number c.args.s.maturity))) c.write_choice-in-Bitmap.ensures

pub returns-in-Struct : goal.returns-in-Struct
returns-in-Struct c = recorded_written (of_kind (doc_of c.args.doc) (maturity_number c.args.s.maturity) c.in-Struct.is (structs (doc_of c.args.doc) (maturity_number c.args.s.maturity))) c.write_struct.ensures

pub returns-in-Unknown : goal.returns-in-Unknown
returns-in-Unknown c = absurd (nothing_found (doc_of c.args.doc) (maturity_number c.args.s.maturity) c.in-Unknown.is _ _ c.requires.room)
