use Rattle.yv_node_leafrefs.specs.InnerIndex.{AreKeys}
use Rattle.yv_node_leafrefs.proofs.draft.data_keys.Given as goal

abbrev pub invariant-loop-number : goal.invariant-loop-number
invariant-loop-number l = AreKeys l.nodes l.above l.names l.number l.keys.items
