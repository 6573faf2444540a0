-- What is kept of the nodes above one.
use Rattle.std.specs.Prelude.{ℕ, Bool, Option, None, Some, List, [], ◌∷◌}
use Rattle.yv_node_content.specs.Definition.{Definition}
use Rattle.yv_node_content.specs.Steps.{Step}
use Rattle.yv_nodes.specs.Member.{data_module_file}
use Rattle.yv_nodes.specs.Tree.{Label}
use Rattle.yv_nodes.specs.Labels.{in_input, in_operation_or_notification, inherited_config}

-- what contracts see of an `Above`
pub record View : Type 0 where
  pub around : Option ℕ
  pub module_file : ℕ
  pub is_config : Bool
  pub in_operation : Bool
  pub in_input : Bool
  pub keys : List (Option Step)

-- the module of the node just above, and what its key names
abbrev pub nearest_module_file : List Label → ℕ
nearest_module_file [] = 0
nearest_module_file (l ∷ ls) = l.module_file

-- the key of the nearest list above
abbrev pub nearest_keys : List Label → List (Option Step)
nearest_keys [] = []
nearest_keys (l ∷ ls) = l.defined.keys

-- what the key of a node names, if there is a node
abbrev pub keys_of : Option Definition → List (Option Step)
keys_of None = []
keys_of (Some d) = d.keys

-- what is seen of these nodes, the nearest first
abbrev pub seen_of : List Label → View
seen_of ls = record {
  around = data_module_file ls;
  module_file = nearest_module_file ls;
  is_config = inherited_config ls;
  in_operation = in_operation_or_notification ls;
  in_input = in_input ls;
  keys = nearest_keys ls;
}
