use Rattle.std.proofs.Common.{◌≡◌, length, refl, arith}
use Rattle.yv_node_leafrefs.proofs.LeafrefGraph.{edges_more}
use Rattle.yv_node_leafrefs.proofs.graph.graph.Goals as goal

pub loop-target-preserved : goal.loop-target-preserved
loop-target-preserved c =
    edges_more c.args.targets.now c.loop-target.target-index c.loop-target.graph.items c.push.new.self.items c.in_ok-row.row _ c.loop-target.invariant refl c.in_ok-row.ensures c.in_ok-push.ensures.items

pub returns : goal.returns
returns c =
    let all : c.loop-target.target-index ≡ length c.args.targets.now = omega arith in
    rw (← all) c.loop-target.invariant
