use Rattle.std.proofs.Common.{◌<◌, ◌≤◌, ◌↔◌, length, get_or}
use Rattle.yv_base_graph.specs.Graph.{LeadsTo}
use Rattle.yv_link_identities.proofs.hierarchy.Hierarchy.stem.Given as goal

abbrev pub invariant-loop-only : goal.invariant-loop-only
invariant-loop-only l = record {
  within : l.node < length l.self.bases.items;
  ranks : get_or l.self.ranks.items l.node 0 ≤ get_or l.self.ranks.items l.from 0;
  leads : LeadsTo l.self.bases.items l.from l.to ↔ LeadsTo l.self.bases.items l.node l.to;
}

abbrev pub decreases-loop-only : goal.decreases-loop-only
decreases-loop-only l = get_or l.self.ranks.items l.node 0
