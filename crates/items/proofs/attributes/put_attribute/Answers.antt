use Rattle.items.proofs.attributes.Laws.{attribute_first_put}
use Rattle.items.proofs.attributes.put_attribute.Goals as goal

pub returns : goal.returns
returns c = attribute_first_put c.args.front c.args.head c.args.at _ c.args.out.now _ c.doc_bit.ensures c.put_documented.ensures
