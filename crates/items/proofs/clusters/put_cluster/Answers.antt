use Rattle.items.proofs.clusters.Whole.{cluster_first_put}
use Rattle.items.proofs.clusters.put_cluster.Goals as goal

pub returns : goal.returns
returns c = cluster_first_put c.args.front c.args.head c.args.revision c.args.at _ _ _ c.args.out.now _ c.doc_bit.ensures c.first_word-word.ensures c.doc_word.ensures c.put_words.ensures
