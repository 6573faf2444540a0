use Rattle.std.proofs.Common.{◌≡◌, Some, map, take}
use Rattle.yv_node_keys.specs.Numbers.{unique_leaf_at}
use Rattle.yv_node_keys.proofs.unique.named_leafs.Given as goal

abbrev pub invariant-loop-path : goal.invariant-loop-path
invariant-loop-path l = record {
  same : l.index ≡ l.fn.index;
  numbers : map (λ n. Some n) l.leafs.items ≡ map (unique_leaf_at l.fn.index l.fn.list) (take l.path-index (map (λ path. path.items) l.paths));
}
