-- The row of a node, by what its statement says and how it is in the tree.
use Rattle.std.specs.Prelude.{ℕ, ◌==◌, List, [], ◌∷◌, ◌++◌, Bool, true, false, Option, Some, None, if◌then◌else◌}
use Rattle.yv_node_content.specs.Kinds.{is_passed}
use Rattle.yv_node_content.specs.Definition.{Definition}
use Rattle.yv_nodes.specs.declared.node.NodeId.{NodeId}
use Rattle.yv_nodes.specs.declared.node.NodePlace.{NodePlace}
use Rattle.yv_nodes.specs.Rows.{Row}
use Rattle.yv_nodes.specs.Tree.{Label}

-- what a JSON member is called
abbrev pub member_of : Bool → List ℕ → List ℕ → List ℕ
member_of true module_file name = module_file ++ 58 ∷ name
member_of false module_file name = name

-- In what follows modules go by the numbers of their files.

-- the module of the nearest of these nodes that isn't a choice or case, the nearest first; none
-- where there is none
abbrev pub data_module_file : (above : List Label) → Option ℕ
data_module_file [] = None
data_module_file (l ∷ ls) =
    if is_passed l.defined.kind then data_module_file ls else Some l.module_file

-- a module is this one
abbrev pub is_module_file : (module_file : ℕ) → Option ℕ → Bool
is_module_file module_file None = false
is_module_file module_file (Some other) = other == module_file

-- what a JSON member is called that writes a node of the module `module_file`, which has this name:
-- the node's name, after that of its module where there is no node of this module around it (RFC
-- 7951, section 4)
abbrev pub member_name : (around : Option ℕ) → (module_file : ℕ) → (module_name name : List ℕ)
    → List ℕ
member_name around module_file module_name name =
    member_of (if is_module_file module_file around then false else true) module_name name

-- the same, with the name of the module in front where there is one
abbrev pub behind : Option (List ℕ) → List ℕ → List ℕ
behind None name = name
behind (Some module_file) name = module_file ++ 58 ∷ name

-- a node of the module of this name, the number of whose file is `module_file`, that is so, with
-- these numbers of the node above it and of those below it
abbrev pub row_with : Definition → (module_file : ℕ) → (module_name : List ℕ) → NodePlace
    → (parent : NodeId) → (children : List NodeId) → Row
row_with d module_file module_name standing parent children = record {
  label = record {
    defined = d;
    module_file = module_file;
    module_name = module_name;
    member = member_of standing.is_qualified module_name d.name;
    is_config = standing.is_config;
    is_key = standing.is_key;
    is_input = standing.is_input;
  };
  parent = parent;
  children = children;
}
