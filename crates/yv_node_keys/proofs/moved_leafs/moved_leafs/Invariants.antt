use Rattle.std.proofs.Common.{◌≡◌, map, take}
use Rattle.yv_node_keys.specs.InnerShifts.{moved_id}
use Rattle.yv_node_keys.proofs.moved_leafs.moved_leafs.Given as goal

abbrev pub invariant-loop-leaf : goal.invariant-loop-leaf
invariant-loop-leaf l = l.leafs.items ≡ map (moved_id l.shift.by) (take l.leaf-index l.known)
