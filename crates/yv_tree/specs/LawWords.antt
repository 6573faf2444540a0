-- What the laws of diagrams say.
use Rattle.std.specs.Prelude.{◌≡◌, ℕ, ◌+◌, ◌≤◌, List, [], ◌++◌, Bool, true, false, ◌⊎◌, Option, Some, None, Ok, Err, Result, length}
use Rattle.yv_node_content.specs.declared.kind.NodeKind.{NodeKind}
use Rattle.yv_node_content.specs.declared.kind.NodeKind.TheVariants as kinds
use Rattle.yv_nodes.specs.Tree.{Label, Forest, no_trees, node, tree}
use Rattle.yv_tree.specs.Columns.{Sheet, column_front, column_line, column_type, indented_text}
use Rattle.yv_tree.specs.Lines.{has_line, if_features}
use Rattle.yv_tree.specs.declared.diagrams.Missing.{Missing}
use Rattle.yv_tree.specs.declared.diagrams.Missing.TheVariants as missing
use Rattle.yv_tree_drawing.specs.Trees.{DrawingAsked}

-- the drawing that shows all, without columns
abbrev pub plain_drawing : DrawingAsked
plain_drawing = record { depth = None; below = []; columns = false }

-- a text, or that there is no module for it
abbrev pub text_or_missing : Option (List ℕ) → Result (List ℕ) Missing
text_or_missing None = Err missing.Module
text_or_missing (Some text) = Ok text

-- one of these trees is of a node that is so, and has a line
abbrev pub HasLineOf : Label → Forest → Type 0
HasLineOf l no_trees = ⊥
HasLineOf l (tree (node m kids) ts) =
    ((l ≡ m) × (has_line (node m kids) ≡ true)) ⊎ HasLineOf l ts

-- a node of this kind has a type in columns
abbrev pub is_typed : NodeKind → Bool
is_typed kinds.Leaf = true
is_typed kinds.LeafList = true
is_typed kinds.Anydata = true
is_typed kinds.Anyxml = true
is_typed _ = false

-- So many blanks stand before the type of a node in a group of this width: at least 3, and the type
-- begins 10 characters and the width behind the margin.
pub record TypeBegins (sheet : Sheet) (width : ℕ) (l : Label) (blanks : ℕ) : Type 0 where
  pub line : column_line sheet width l ≡ column_front sheet l
      ++ indented_text blanks (column_type l.defined.kind l)
      ++ if_features l.defined.features
  pub apart : 3 ≤ blanks
  pub column : length (column_front sheet l) + blanks ≡ 10 + width
