use Rattle.std.proofs.Common.{◌≡◌, map, take, Vec, Global}
use Rattle.yv_nodes.specs.declared.node.NodeId.{NodeId}
use Rattle.yv_node_keys.specs.InnerShifts.{AreUnmixed, moved_id}
use Rattle.yv_node_keys.proofs.moved_leafs.all_moved.Given as goal

abbrev pub invariant-loop-leafs : goal.invariant-loop-leafs
invariant-loop-leafs l = record {
  moved : map (λ (v : Vec NodeId Global). v.items) l.found.items ≡ map (λ (v : Vec NodeId Global). map (moved_id l.shift.by) v.items) (take l.leafs-index l.known);
  unmixed : AreUnmixed l.nodes.rows l.found.items;
}
