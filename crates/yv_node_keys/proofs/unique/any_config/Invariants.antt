use Rattle.std.proofs.Common.{◌≡◌, drop}
use Rattle.std.specs.List.{list_any}
use Rattle.yv_node_keys.specs.InnerMixedConfig.{is_config_at}
use Rattle.yv_node_keys.proofs.unique.any_config.Given as goal

-- what holds of the nodes behind holds of all
abbrev pub invariant-loop-leaf : goal.invariant-loop-leaf
invariant-loop-leaf l = list_any (is_config_at l.nodes l.wanted) (drop l.leaf-index l.leafs) ≡ list_any (is_config_at l.nodes l.wanted) l.leafs
