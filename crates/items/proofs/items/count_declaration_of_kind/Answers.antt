use Rattle.items.proofs.items.Laws.{from_kind, clusters, endpoints, enums, bitmaps, structs, top, kind_counted, kind_unknown}
use Rattle.items.proofs.items.count_declaration_of_kind.Goals as goal

pub count_struct-requires-clause-struct_from : goal.count_struct-requires-clause-struct_from
count_struct-requires-clause-struct_from c = from_kind c.args.s.from c.args.s.next c.args.part.now c.in-Struct.is c.requires.declaration_from

pub returns-in-Cluster : goal.returns-in-Cluster
returns-in-Cluster c = kind_counted c.in-Cluster.is (λ i. clusters i.doc i.maturity) c.count_cluster.ensures.counts

pub returns-in-Endpoint : goal.returns-in-Endpoint
returns-in-Endpoint c = kind_counted c.in-Endpoint.is (λ i. endpoints i.doc i.maturity) (λ i. c.count_endpoint.ensures)

pub returns-in-Enum : goal.returns-in-Enum
returns-in-Enum c = kind_counted c.in-Enum.is (λ i. enums i.doc i.maturity) (λ i. c.count_choice.ensures.counts (top 2 i))

pub returns-in-Bitmap : goal.returns-in-Bitmap
returns-in-Bitmap c = kind_counted c.in-Bitmap.is (λ i. bitmaps i.doc i.maturity) (λ i. c.count_choice-in-Bitmap.ensures.counts (top 3 i))

pub returns-in-Struct : goal.returns-in-Struct
returns-in-Struct c = kind_counted c.in-Struct.is (λ i. structs i.doc i.maturity) (λ i. c.count_struct.ensures.counts (top 5 i))

pub returns-in-Unknown : goal.returns-in-Unknown
returns-in-Unknown c = kind_unknown c.in-Unknown.is
