-- Only private clauses cite this: the lines that are still to be drawn.
use Rattle.std.specs.Prelude.{◌≡◌, ℕ, List, [], ◌∷◌, ◌++◌, Bool, true, false, Option, Some, None}
use Rattle.yv_node_content.specs.declared.kind.NodeKind.{NodeKind}
use Rattle.yv_node_content.specs.declared.kind.NodeKind.TheVariants as kinds
use Rattle.yv_nodes.specs.declared.node.NodeId.{NodeId}
use Rattle.yv_nodes.specs.Tree.{Forest, Tree, node, tree}
use Rattle.yv_nodes.specs.Rows.{Module, Rows, tree_of}
use Rattle.yv_schema_tables.specs.Sound.{IsChild}
use Rattle.yv_base_streams.specs.Pages.{Adds, Output}
use Rattle.yv_tree.specs.Columns.{Sheet, is_choice, sheet_line}
use Rattle.yv_tree.specs.Lines.{bars, has_line}
use Rattle.yv_tree.specs.DrawnNodes.{drawn_nodes, drawn_tree, drawn_trees}
use Rattle.yv_tree.specs.Diagram.{text_of}
use Rattle.yv_tree.specs.InnerPart.{trimmed_trees, trimmed_tree}
use Rattle.yv_tree_drawing.specs.Steps.{Step}
use Rattle.yv_tree_drawing.specs.Trees.{DrawingAsked}

-- a node of this kind is a list
abbrev pub is_list : NodeKind → Bool
is_list kinds.List = true
is_list _ = false

-- a sheet of these
abbrev pub sheet_with : List Module → (own : ℕ) → (columns : Bool) → Sheet
sheet_with modules own columns = record { modules = modules; own = own; columns = columns }

-- a drawing of these
abbrev pub drawing_with : (depth : Option ℕ) → (below : List Step) → (columns : Bool) → DrawingAsked
drawing_with depth below columns = record { depth = depth; below = below; columns = columns }

-- how the nodes of a group are drawn: in a choice or not, in a group of this width, with so many
-- levels below them and behind this margin; and the steps that are left for those below them
pub record Form : Type 0 where
  pub sheet : Sheet
  pub in_choice : Bool
  pub width : ℕ
  pub left : Option ℕ
  pub margin : List ℕ
  pub way : List Step

-- a form of these
abbrev pub form_with : Sheet → (in_choice : Bool) → (width : ℕ) → (left : Option ℕ)
    → (margin : List ℕ) → List Step → Form
form_with sheet in_choice width left margin way = record {
  sheet = sheet;
  in_choice = in_choice;
  width = width;
  left = left;
  margin = margin;
  way = way;
}

-- the lines of a node in a group of this width and of those below it, where no case is written out
abbrev pub node_lines : Sheet → (width : ℕ) → (left : Option ℕ) → (margin : List ℕ) → Bool → Tree
    → List (List ℕ)
node_lines sheet width left margin follows (node l kids) =
    (margin ++ sheet_line sheet width l)
    ∷ drawn_nodes sheet (is_choice l.defined.kind) left (margin ++ bars follows) kids

-- the text of a tree
abbrev pub shown_text : Form → Bool → Tree → List ℕ
shown_text f follows t =
    text_of (drawn_tree f.sheet f.in_choice f.width f.left f.margin follows (trimmed_tree f.way t))

-- the text of a node that waits for what follows it
abbrev pub waiting_text : Rows → Form → Bool → Option NodeId → List ℕ
waiting_text s f follows None = []
waiting_text s f follows (Some c) = shown_text f follows (tree_of s c)

-- the text of trees
abbrev pub trees_text : Form → Forest → List ℕ
trees_text f ts =
    text_of (drawn_trees f.sheet f.in_choice f.width f.left f.margin (trimmed_trees f.way ts))

-- these trees after the tree of a node that waits
abbrev pub waiting_trees : Rows → Option NodeId → Forest → Forest
waiting_trees s None ts = ts
waiting_trees s (Some c) ts = tree (tree_of s c) ts

-- a child of a node, which has a line
pub record IsShown (s : Rows) (way : List Step) (p c : NodeId) : Type 0 where
  pub child : IsChild s p c
  pub shown : has_line (trimmed_tree way (tree_of s c)) ≡ true

-- all these bytes are put as soon as the rest of them is
abbrev pub Leaves : (all rest : List ℕ) → (old new : Output) → Type 0
Leaves all rest old new = (last : Output) → Adds rest new last → Adds all old last
