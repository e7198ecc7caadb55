use Rattle.items.proofs.endpoints.Laws.{endpoint_put}
use Rattle.items.proofs.endpoints.put_endpoint.Goals as goal

pub returns : goal.returns
returns c = endpoint_put c.args.at _ _ c.args.out.now _ c.plain_word.ensures c.put_words.ensures
