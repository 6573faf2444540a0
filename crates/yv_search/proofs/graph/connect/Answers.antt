use Rattle.std.proofs.Common.{refl}
use Rattle.std.proofs.lemmas.Option.{slice_get_read}
use Rattle.yv_search.proofs.GraphEdges.{one_more}
use Rattle.yv_search.proofs.graph.connect.Goals as goal

pub returns : goal.returns
returns c = one_more c.args.graph.now.items c.args.from c.args.to c.index_mut.result.now c.push.new.self c.requires (slice_get_read _ _ _ _ refl c.requires c.index_mut.ensures.value) c.in_ok-push.ensures.items
