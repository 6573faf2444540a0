use Rattle.std.proofs.Common.{take}
use Rattle.yv_link_identities.specs.InnerWays.{AddsEdges}
use Rattle.yv_link_identities.proofs.reverse.add_edges.Given as goal

abbrev pub invariant-loop-from : goal.invariant-loop-from
invariant-loop-from l = AddsEdges (take l.from-index l.froms) l.node l.initial.graph.items l.graph.items
