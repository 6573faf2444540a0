use Rattle.std.proofs.Common.{◌≡◌, Some, map, take}
use Rattle.yv_node_keys.specs.Numbers.{key_leaf_at}
use Rattle.yv_node_keys.proofs.keys.leafs_by.Given as goal

abbrev pub invariant-loop-place : goal.invariant-loop-place
invariant-loop-place l = map (λ n. Some n) l.leafs.items ≡ map (key_leaf_at l.nodes.rows l.fn.list) (take l.place l.keys)
