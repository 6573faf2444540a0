use Rattle.std.proofs.Common.{◌≡◌, Some, false, map, take}
use Rattle.std.specs.List.{list_any}
use Rattle.yv_node_keys.specs.Numbers.{unique_leaf_at}
use Rattle.yv_node_content.specs.Definition.{paths_in}
use Rattle.yv_node_keys.specs.InnerMixedConfig.{is_bad_statement_at}
use Rattle.yv_node_keys.proofs.unique.all_leafs.Given as goal

abbrev pub invariant-loop-paths : goal.invariant-loop-paths
invariant-loop-paths l = record {
  same : l.index ≡ l.fn.nodes;
  good : list_any (is_bad_statement_at l.fn.nodes l.fn.list) (map paths_in (take l.paths-index l.statements)) ≡ false;
  numbers : map (λ numbers. map (λ n. Some n) numbers.items) l.found.items ≡ map (map (unique_leaf_at l.fn.nodes l.fn.list)) (map paths_in (take l.paths-index l.statements));
}
