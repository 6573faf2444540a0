-- Only private clauses cite this: nodes below one list that correspond to those below another.
use Rattle.std.specs.Prelude.{◌≡◌, ℕ, ◌==◌, List, [], ◌∷◌, Option, Some, None, if◌then◌else◌}
use Rattle.std.specs.Option.{option_and_then}
use Rattle.yv_nodes.specs.declared.node.NodeId.{NodeId}
use Rattle.yv_nodes.specs.Rows.{Row}
use Rattle.yv_node_keys.specs.Numbers.{is_called_at, leaf_of}

-- two nodes have one module and one name
abbrev pub AreCalledAlike : List Row → NodeId → NodeId → Type 0
AreCalledAlike rows one other = (module_file : ℕ) (name : List ℕ)
    → is_called_at rows module_file name one ≡ is_called_at rows module_file name other

-- the nodes of two lists have, pair by pair
pub data ArePairs (rows : List Row) : List NodeId → List NodeId → Type 0 where
  no_pairs : ArePairs rows [] []
  pair : {x y : NodeId} {xs ys : List NodeId} → AreCalledAlike rows x y → ArePairs rows xs ys
      → ArePairs rows (x ∷ xs) (y ∷ ys)

-- the second of the first pair that begins with a node
abbrev pub counterpart : NodeId → (ones others : List NodeId) → Option NodeId
counterpart n [] others = None
counterpart n (x ∷ ones) [] = None
counterpart n (x ∷ ones) (y ∷ others) = if x.0 == n.0 then Some y else counterpart n ones others

-- it, if it is a leaf
abbrev pub leaf_counterpart : List Row → (ones others : List NodeId) → NodeId → Option NodeId
leaf_counterpart rows ones others n = option_and_then (leaf_of rows) (counterpart n ones others)
