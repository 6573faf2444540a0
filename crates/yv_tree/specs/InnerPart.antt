-- Only private clauses cite this: the parts of trees that steps leave.
use Rattle.std.specs.Prelude.{◌≡◌, ◌<◌, ℕ, List, [], ◌∷◌, length, Bool, false, ◌&&◌, Option, Some, None, if◌then◌else◌}
use Rattle.std.specs.List.{slice_index_or}
use Rattle.yv_nodes.specs.declared.node.NodeId.{NodeId}
use Rattle.yv_nodes.specs.Tree.{Forest, Tree, no_trees, node, tree}
use Rattle.yv_nodes.specs.Rows.{Rows, tree_of}
use Rattle.yv_tree.specs.Lines.{has_line}
use Rattle.yv_tree.specs.Part.{is_step, leads, part}
use Rattle.yv_tree_drawing.specs.Steps.{Step}

-- a tree of which these steps are left for what is below its root
abbrev pub trimmed_tree : List Step → Tree → Tree
trimmed_tree way (node l kids) = node l (part (Some l.module_file) way kids)

-- trees of which these steps are left for what is below each of them
abbrev pub trimmed_trees : List Step → Forest → Forest
trimmed_trees way no_trees = no_trees
trimmed_trees way (tree t ts) = tree (trimmed_tree way t) (trimmed_trees way ts)

-- the steps behind the first
abbrev pub others : List Step → List Step
others [] = []
others (x ∷ xs) = xs

-- the first of these trees to which a step leads
abbrev pub step_into : (above : Option ℕ) → Step → Forest → Option Tree
step_into above x no_trees = None
step_into above x (tree (node l kids) ts) =
    if is_step above x l then Some (node l kids) else step_into above x ts

-- the part that is left of the tree to which the first step led
abbrev pub part_at : List Step → Option Tree → Forest
part_at way None = no_trees
part_at way (Some t) = tree (trimmed_tree way t) no_trees

-- the steps behind the first lead on from the tree to which the first led
abbrev pub leads_at : List Step → Option Tree → Bool
leads_at way None = false
leads_at way (Some (node l kids)) = has_line (node l kids) && leads (Some l.module_file) way kids

-- the node at this place among these is the one of a tree that was found
pub record IsPlaceOf (s : Rows) (cs : List NodeId) (found : Option Tree) (i : ℕ) : Type 0 where
  pub within : i < length cs
  pub tree_is : (d : NodeId) → found ≡ Some (tree_of s (slice_index_or cs i d))
