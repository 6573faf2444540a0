-- The tree diagram of a module (RFC 8340, section 2).
use Rattle.std.specs.Prelude.{ℕ, List, [], ◌∷◌, ◌++◌, Bool, true, false, ◌&&◌, ◌==◌, not, Option, Some, None, filter, if◌then◌else◌, codes}
use Rattle.std.specs.List.{flat_map, slice_index_or}
use Rattle.std.specs.Option.{option_map}
use Rattle.std.specs.Str.{bytes_eq}
use Rattle.yv_node_content.specs.declared.kind.NodeKind.{NodeKind}
use Rattle.yv_node_content.specs.declared.kind.NodeKind.TheVariants.{Rpc, Notification}
use Rattle.yv_nodes.specs.declared.node.NodeId.{NodeId}
use Rattle.yv_nodes.specs.Rows.{Row, Rows, Module, Note, row_at, is_root, forest}
use Rattle.yv_tree.specs.Lines.{forest_lines}
use Rattle.yv_tree.specs.declared.sections.Part.{Part}
use Rattle.yv_tree.specs.declared.sections.Part.TheVariants.{Data, Rpcs, Notifications}

-- a node of this kind at the top belongs to this part of a diagram
abbrev pub belongs : NodeKind → Part → Bool
belongs Rpc Rpcs = true
belongs Rpc _ = false
belongs Notification Notifications = true
belongs Notification _ = false
belongs _ Data = true
belongs _ _ = false

-- a node at the top is one of this module, and belongs to this part. Modules go by the numbers of
-- their files
abbrev pub is_top : Rows → (own : ℕ) → Part → NodeId → Bool
is_top s own part c =
    (row_at s c).label.module_file == own && belongs (row_at s c).label.defined.kind part

-- the nodes of a module at the top that belong to a part, in order
abbrev pub tops : Rows → (own : ℕ) → Part → List NodeId
tops s own part = filter (is_top s own part) s.top

-- the module of each node at the top, and below it the one of the node above: parents come before
-- their children
abbrev pub module_files_from : (done : List ℕ) → List Row → List ℕ
module_files_from done [] = done
module_files_from done (r ∷ rs) =
    module_files_from (done
    ++ (if is_root r.parent then r.label.module_file else slice_index_or done r.parent.0 0) ∷ []) rs

-- the module of the node at the top of the way to a node: the module of the first name of a path to
-- it
abbrev pub first_module_file : Rows → NodeId → ℕ
first_module_file s c = slice_index_or (module_files_from [] s.nodes) c.0 0

-- an augment of this module adds to another one: the first name of its path and its target are of
-- other modules
abbrev pub is_shown : Rows → (own : ℕ) → Note → Bool
is_shown s own a = a.module_file == own && not (first_module_file s a.target == own)
    && not ((row_at s a.target).label.module_file == own)

-- after an empty line a title at two blanks, and nodes at four; nothing without nodes
abbrev pub section : Rows → (own : ℕ) → (title : List ℕ) → List NodeId → List (List ℕ)
section s own title [] = []
section s own title (c ∷ cs) =
    [] ∷ (codes "  " ++ title ++ codes ":")
    ∷ forest_lines s.modules own (codes "    ") (forest s (c ∷ cs))

-- the section of an augment, where it is shown
abbrev pub augment_section : Rows → (own : ℕ) → Note → List (List ℕ)
augment_section s own a =
    if is_shown s own a then section s own (codes "augment " ++ a.argument) a.nodes else []

-- the lines of the diagram of a module of this name: the header, the data nodes, and the sections
abbrev pub diagram_lines : Rows → (name : List ℕ) → (own : ℕ) → List (List ℕ)
diagram_lines s name own =
    (codes "module: " ++ name)
    ∷ forest_lines s.modules own (codes "  ") (forest s (tops s own Data))
    ++ flat_map (augment_section s own) s.augments
    ++ section s own (codes "rpcs") (tops s own Rpcs)
    ++ section s own (codes "notifications") (tops s own Notifications)

-- lines, each with a line feed after it
abbrev pub text_of : List (List ℕ) → List ℕ
text_of lines = flat_map (λ line. line ++ 10 ∷ []) lines

-- the first of these modules that has this name
abbrev pub module_in : List Module → (name : List ℕ) → Option Module
module_in [] name = None
module_in (m ∷ ms) name = if bytes_eq m.name name then Some m else module_in ms name

-- the diagram of the implemented module of this name: none where there is none
abbrev pub diagram_of : Rows → (name : List ℕ) → Option (List ℕ)
diagram_of s name =
    option_map (λ m. text_of (diagram_lines s m.name m.module_file)) (module_in s.modules name)
