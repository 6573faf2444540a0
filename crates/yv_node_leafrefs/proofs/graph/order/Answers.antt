use Rattle.yv_node_leafrefs.proofs.LeafrefGraph.{graph_in, clear_of_cycles, behind_in, all_in}
use Rattle.yv_node_leafrefs.proofs.graph.order.Goals as goal

pub rank-requires : goal.rank-requires
rank-requires c =
    record { graph = graph_in c.requires.0 c.args.targets.now c.in_ok-graph.graph.items c.deref.result.now c.requires.1 c.requires.2 c.in_ok-graph.ensures c.deref.ensures.value }

pub unreachable-requires : goal.unreachable-requires
unreachable-requires c =
    clear_of_cycles c.requires.0 c.args.targets.now c.in_ok-graph.graph.items c.deref.result.now c.in_ok-order.field-0 c.in-Cycle.field-0 c.requires.1 c.requires.2 c.in_ok-graph.ensures c.deref.ensures.value
    c.requires.3 c.in-Cycle.is c.in_ok-order.ensures.cycle

pub returns-clause-behind : goal.returns-clause-behind
returns-clause-behind c =
    behind_in c.requires.0 c.args.targets.now c.in_ok-graph.graph.items c.deref.result.now c.in_ok-order.field-0 c.in-Ranks.ranks c.in-Ranks.order c.requires.1 c.requires.2 c.in_ok-graph.ensures c.deref.ensures.value
    c.in-Ranks.is c.in_ok-order.ensures.order

pub returns-clause-all : goal.returns-clause-all
returns-clause-all c =
    all_in c.args.targets.now c.in_ok-graph.graph.items c.deref.result.now c.in_ok-order.field-0 c.in-Ranks.ranks c.in-Ranks.order c.in_ok-graph.ensures c.deref.ensures.value
    c.in-Ranks.is c.in_ok-order.ensures.order
