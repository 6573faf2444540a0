-- What is known of the numbers of leafs and cases, where they were found; how, only the finder
-- asks.
use Rattle.std.specs.Prelude.{List, length}
use Rattle.yv_nodes.specs.Rows.{Row}
use Rattle.yv_node_keys.specs.InnerTargets.{AreUpTo}
use Rattle.yv_node_keys.specs.declared.targets.LeafTargets.{LeafTargets}

-- these are what the lists and choices of these rows name
pub record AreLeafTargets (rows : List Row) (targets : LeafTargets) : Type 0 where
  pub all : AreUpTo rows targets (length rows)
