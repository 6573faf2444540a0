-- The lines of schema nodes in a tree diagram (RFC 8340, section 2.6).
use Rattle.std.specs.Prelude.{ℕ, List, [], ◌∷◌, ◌++◌, Bool, true, false, ◌||◌, ◌==◌, Option, Some, None, map, if◌then◌else◌, codes}
use Rattle.std.specs.List.{flat_map}
use Rattle.yv_node_content.specs.Steps.{Piece, Step, is_module_file}
use Rattle.yv_node_content.specs.declared.kind.NodeKind.{NodeKind}
use Rattle.yv_node_content.specs.declared.kind.NodeKind.TheVariants as kinds
use Rattle.yv_node_content.specs.declared.kind.NodeStatus.{NodeStatus}
use Rattle.yv_node_content.specs.declared.kind.NodeStatus.TheVariants.{Current, Deprecated, Obsolete}
use Rattle.yv_nodes.specs.Tree.{Label, Tree, node, Forest, no_trees, tree}
use Rattle.yv_nodes.specs.Rows.{Module}

-- what a line begins with, by the node's own `status` statement
abbrev pub status_mark : NodeStatus → List ℕ
status_mark Current = codes "+"
status_mark Deprecated = codes "x"
status_mark Obsolete = codes "o"

-- what may be done with a node: written in an input, written and read, or read
abbrev pub access : Label → List ℕ
access l = if l.is_input then codes "-w" else (if l.is_config then codes "rw" else codes "ro")

-- the flags of a node (RFC 8340, section 2.6)
abbrev pub flags : NodeKind → Label → List ℕ
flags kinds.Rpc l = codes "-x"
flags kinds.Action l = codes "-x"
flags kinds.Notification l = codes "-n"
flags _ l = access l

-- the flags and a blank, or the colon of a case, which has no flags
abbrev pub line_start : NodeKind → Label → List ℕ
line_start kinds.Case l = codes ":"
line_start kind l = flags kind l ++ codes " "

-- the prefix of the module of this number, in its own file: nothing where there is no such module
abbrev pub prefix_in : List Module → (module_file : ℕ) → List ℕ
prefix_in [] module_file = []
prefix_in (m ∷ ms) module_file =
    if m.module_file == module_file then m.prefix else prefix_in ms module_file

-- the prefix of the module of a node and a colon, where that isn't the module of the diagram
abbrev pub lead : List Module → (own : ℕ) → (module_file : ℕ) → List ℕ
lead modules own module_file =
    if module_file == own then [] else prefix_in modules module_file ++ codes ":"

-- the name of a node, with its module where it is another than that of the diagram
abbrev pub full_name : List Module → (own : ℕ) → Label → List ℕ
full_name modules own l = lead modules own l.module_file ++ l.defined.name

-- the name, between parentheses at a choice and a case
abbrev pub shown_name : NodeKind → List Module → (own : ℕ) → Label → List ℕ
shown_name kinds.Choice modules own l = codes "(" ++ full_name modules own l ++ codes ")"
shown_name kinds.Case modules own l = codes "(" ++ full_name modules own l ++ codes ")"
shown_name _ modules own l = full_name modules own l

-- a node that may be missing, and isn't a key
abbrev pub optional : Label → List ℕ
optional l = if l.defined.is_mandatory || l.is_key then [] else codes "?"

-- each text with this mark in front
abbrev pub behind_each : (mark : List ℕ) → List (List ℕ) → List ℕ
behind_each mark texts = flat_map (λ text. mark ++ text) texts

-- texts with this mark between them
abbrev pub between : (mark : List ℕ) → List (List ℕ) → List ℕ
between mark [] = []
between mark (text ∷ texts) = text ++ behind_each mark texts

-- the name of a key, without the prefix that it may have where it is written
abbrev pub key_name : Option Step → List ℕ
key_name None = []
key_name (Some step) = step.name

-- a star, and the names of the keys between brackets
abbrev pub list_options : List (Option Step) → List ℕ
list_options keys = codes "* [" ++ between (codes " ") (map key_name keys) ++ codes "]"

-- the marks after a node's name: presence, optional, list with its keys
abbrev pub options : NodeKind → Label → List ℕ
options kinds.Container l = if l.defined.has_presence then codes "!" else []
options kinds.Leaf l = optional l
options kinds.Choice l = optional l
options kinds.Anydata l = optional l
options kinds.Anyxml l = optional l
options kinds.LeafList l = codes "*"
options kinds.List l = list_options l.defined.keys
options _ l = []

-- a further field: a blank and the field, or nothing where it is empty
abbrev pub behind : List ℕ → List ℕ
behind [] = []
behind (b ∷ bs) = codes " " ++ b ∷ bs

-- a prefix with its colon, or nothing without one
abbrev pub written_prefix : Option (List ℕ) → List ℕ
written_prefix None = []
written_prefix (Some prefix) = prefix ++ codes ":"

-- a piece of the path of a leafref as it is written, but without a prefix that refers to the
-- module of the leaf itself
abbrev pub shown_piece : (module_file : ℕ) → Piece → List ℕ
shown_piece module_file p =
    (if is_module_file (Some module_file) p.module_file then [] else written_prefix p.prefix)
    ++ p.name

-- a leafref is shown as an arrow and its path, any other type as it is written
abbrev pub shown_type : (path : List Piece) → Label → List ℕ
shown_type [] l = l.defined.type_text
shown_type (p ∷ ps) l =
    codes "-> " ++ between (codes "/") (map (shown_piece l.module_file) (p ∷ ps))

-- the field of the if-features, or nothing without any
abbrev pub if_features : List ℕ → List ℕ
if_features [] = []
if_features (b ∷ bs) = codes " {" ++ b ∷ bs ++ codes "}?"

-- `<status>--<flags> <name><opts> <type> <if-features>`, and of a case `<status>--:(name) <if-features>`
abbrev pub line : List Module → (own : ℕ) → Label → List ℕ
line modules own l =
    status_mark l.defined.status ++ codes "--" ++ line_start l.defined.kind l
    ++ shown_name l.defined.kind modules own l
    ++ options l.defined.kind l ++ behind (shown_type l.defined.path l)
    ++ if_features l.defined.features

-- there is a tree
abbrev pub are_some : Forest → Bool
are_some no_trees = false
are_some (tree t ts) = true

-- a node with these trees below it has a line: an input or output without any has none
abbrev pub has_line_with : NodeKind → Forest → Bool
has_line_with kinds.Input kids = are_some kids
has_line_with kinds.Output kids = are_some kids
has_line_with _ kids = true

-- a node has a line in the diagram
abbrev pub has_line : Tree → Bool
has_line (node l kids) = has_line_with l.defined.kind kids

-- one of these trees has a line
abbrev pub any_line : Forest → Bool
any_line no_trees = false
any_line (tree t ts) = has_line t || any_line ts

-- what one more level puts before a line, where siblings with lines follow the node above or don't
abbrev pub bars : Bool → List ℕ
bars true = codes "|  "
bars false = codes "   "

-- the lines of nodes, in order, each followed by those below it
abbrev mutual
  pub tree_lines : List Module → (own : ℕ) → (margin : List ℕ) → (follows : Bool) → Tree
      → List (List ℕ)
  tree_lines modules own margin follows (node l kids) =
      (margin ++ line modules own l) ∷ forest_lines modules own (margin ++ bars follows) kids

  pub forest_lines : List Module → (own : ℕ) → (margin : List ℕ) → Forest → List (List ℕ)
  forest_lines modules own margin no_trees = []
  forest_lines modules own margin (tree t ts) =
      (if has_line t then tree_lines modules own margin (any_line ts) t else [])
      ++ forest_lines modules own margin ts
