-- The lines of schema nodes whose types begin in columns: in one for the nodes below one node.
use Rattle.std.specs.Prelude.{ℕ, ◌+◌, ◌-◌, List, [], ◌∷◌, ◌++◌, Bool, true, false, ◌&&◌, not, max, length, replicate, if◌then◌else◌, codes}
use Rattle.yv_node_content.specs.declared.kind.NodeKind.{NodeKind}
use Rattle.yv_node_content.specs.declared.kind.NodeKind.TheVariants as kinds
use Rattle.yv_nodes.specs.Tree.{Label, Tree, node, Forest, no_trees, tree}
use Rattle.yv_nodes.specs.Rows.{Module}
use Rattle.yv_tree.specs.Lines.{full_name, has_line, if_features, line, line_start, list_options, options, shown_name, shown_type, status_mark}

-- what the lines of a diagram depend on: the modules of the schema, the number of the file of the
-- one whose diagram it is, and whether types begin in columns
pub record Sheet : Type 0 where
  pub modules : List Module
  pub own : ℕ
  pub columns : Bool

-- a node of this kind is a choice
abbrev pub is_choice : NodeKind → Bool
is_choice kinds.Choice = true
is_choice _ = false

-- a node of this kind is a case
abbrev pub is_case : NodeKind → Bool
is_case kinds.Case = true
is_case _ = false

-- the name of a node as a line shows it
abbrev pub shown_label : Sheet → Label → List ℕ
shown_label sheet l = shown_name l.defined.kind sheet.modules sheet.own l

-- nothing is in the list
abbrev pub is_empty : {X : Type 0} → List X → Bool
is_empty [] = true
is_empty (x ∷ xs) = false

-- the name of a node counts in the width of its group: not of a case, nor of a list that has keys
abbrev pub counts : NodeKind → Label → Bool
counts kinds.Case l = false
counts kinds.List l = is_empty l.defined.keys
counts _ l = true

-- how many characters of a node's name count
abbrev pub label_width : Sheet → Label → ℕ
label_width sheet l = if counts l.defined.kind l then length (shown_label sheet l) else 0

-- the width of a tree in its group: 0 for one that has no line
abbrev pub tree_width : Sheet → Tree → ℕ
tree_width sheet (node l kids) = if has_line (node l kids) then label_width sheet l else 0

-- the width of a group of nodes: the length of the longest name that counts
abbrev pub width : Sheet → Forest → ℕ
width sheet no_trees = 0
width sheet (tree t ts) = max (tree_width sheet t) (width sheet ts)

-- the marks after a node's name: a list without keys has no brackets
abbrev pub column_options : NodeKind → Label → List ℕ
column_options kinds.List l =
    if is_empty l.defined.keys then codes "*" else list_options l.defined.keys
column_options kind l = options kind l

-- the type of a node: that of `anydata` and `anyxml` is the keyword, and a list has none
abbrev pub column_type : NodeKind → Label → List ℕ
column_type kinds.List l = []
column_type kinds.Anydata l = codes "anydata"
column_type kinds.Anyxml l = codes "anyxml"
column_type _ l = shown_type l.defined.path l

-- blanks, and a text; nothing where the text is empty
abbrev pub indented_text : (blanks : ℕ) → List ℕ → List ℕ
indented_text blanks [] = []
indented_text blanks (b ∷ bs) = replicate blanks 32 ++ b ∷ bs

-- how many blanks there are before the type, in a group of this width: the type begins 4 characters
-- behind the longest name
abbrev pub blanks_before : (width : ℕ) → Sheet → Label → ℕ
blanks_before width sheet l =
    4 + width - length (shown_label sheet l ++ column_options l.defined.kind l)

-- what comes before the type in the line of a node, without the blanks
abbrev pub column_front : Sheet → Label → List ℕ
column_front sheet l =
    status_mark l.defined.status ++ codes "--" ++ line_start l.defined.kind l
    ++ shown_label sheet l ++ column_options l.defined.kind l

-- the line of a node in a group of this width
abbrev pub column_line : Sheet → (width : ℕ) → Label → List ℕ
column_line sheet width l =
    column_front sheet l
    ++ indented_text (blanks_before width sheet l) (column_type l.defined.kind l)
    ++ if_features l.defined.features

-- the line of a case that a choice leaves out (RFC 7950, section 7.9.2), with what it holds
abbrev pub case_line : Sheet → Label → List ℕ
case_line sheet l =
    status_mark l.defined.status ++ codes "--:(" ++ full_name sheet.modules sheet.own l ++ codes ")"

-- the line of a node in a group of this width, in columns or not
abbrev pub sheet_line : Sheet → (width : ℕ) → Label → List ℕ
sheet_line sheet width l =
    if sheet.columns then column_line sheet width l else line sheet.modules sheet.own l

-- in columns a case is written out before a node of a choice that isn't one
abbrev pub lacks_case : Sheet → (in_choice : Bool) → Label → Bool
lacks_case sheet in_choice l = sheet.columns && (in_choice && not (is_case l.defined.kind))
