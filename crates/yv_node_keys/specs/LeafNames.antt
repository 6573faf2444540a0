-- Rows whose `key` and `unique` statements all name leafs.
use Rattle.std.specs.Prelude.{◌≡◌, List, false, not, is_some, Some, slice_get}
use Rattle.std.specs.List.{list_any}
use Rattle.yv_nodes.specs.declared.node.NodeId.{NodeId}
use Rattle.yv_nodes.specs.Rows.{Row}
use Rattle.yv_node_keys.specs.Numbers.{key_leaf_at, unique_leaf_at}

-- no name of a key and no path of a `unique` statement is that of no leaf
pub record HaveLeafs (rows : List Row) : Type 0 where
  pub keys : (n : NodeId) (r : Row) → slice_get rows n.0 ≡ Some r
      → list_any (λ key. not (is_some (key_leaf_at rows n key))) r.label.defined.keys ≡ false
  pub uniques : (n : NodeId) (r : Row) → slice_get rows n.0 ≡ Some r
      → list_any (list_any (λ path. not (is_some (unique_leaf_at rows n path))))
      r.label.defined.uniques ≡ false
