-- The schema as a tree (RFC 7950, section 7).
use Rattle.std.specs.Prelude.{ℕ, ◌+◌, List, [], ◌∷◌, Bool}
use Rattle.yv_node_content.specs.Definition.{Definition}

-- what a schema node is: what its statement says of it, the number of the file of the module whose
-- namespace it is in, that module's name, what a JSON member that writes it is called (RFC 7951,
-- section 4), whether it is configuration (RFC 7950, section 7.21.1), whether it is a key of the
-- list just above, and whether it is an operation's input or is in it
pub record Label : Type 0 where
  pub defined : Definition
  pub module_file : ℕ
  pub module_name : List ℕ
  pub member : List ℕ
  pub is_config : Bool
  pub is_key : Bool
  pub is_input : Bool

-- schema nodes of one parent, in order, each with those below it
mutual
  pub data Tree : Type 0 where
    node : Label → Forest → Tree

  pub data Forest : Type 0 where
    no_trees : Forest
    tree : Tree → Forest → Forest

-- how many nodes there are, at any depth
abbrev pub count : Forest → ℕ
count no_trees = 0
count (tree (node l kids) ts) = 1 + count kids + count ts

-- these nodes without those below them
abbrev pub labels : Forest → List Label
labels no_trees = []
labels (tree (node l kids) ts) = l ∷ labels ts
