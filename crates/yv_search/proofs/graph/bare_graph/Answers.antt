use Rattle.yv_search.proofs.GraphEdges.{bare_more}
use Rattle.yv_search.proofs.graph.bare_graph.Goals as goal

pub loop-preserved : goal.loop-preserved
loop-preserved c = bare_more c.loop.counter c.loop.graph.items c.push.new.self.items c.new.result c.new.ensures.items c.in_ok-push.ensures.items c.loop.invariant
