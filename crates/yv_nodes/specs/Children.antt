-- Children of schema nodes by their modules and names (RFC 7950, section 6.5).
use Rattle.std.specs.Prelude.{ℕ, ◌==◌, Bool, ◌&&◌, List, Option, Some, None, if◌then◌else◌}
use Rattle.std.specs.Str.{bytes_eq}
use Rattle.yv_text_statement.specs.TextInFile.{TextInFile}
use Rattle.yv_nodes.specs.Tree.{Label, Tree, node, Forest, no_trees, tree}

-- a node is of the module of this number and has this name
abbrev pub is_called : (module_file : ℕ) → (name : List ℕ) → Label → Bool
is_called module_file name l = l.module_file == module_file && bytes_eq l.defined.name name

-- the first of these trees whose node has this module and this name, whatever its kind
abbrev pub child_named : (module_file : ℕ) → (name : List ℕ) → Forest → Option Tree
child_named module_file name no_trees = None
child_named module_file name (tree (node l kids) ts) =
    if is_called module_file name l then Some (node l kids) else child_named module_file name ts

-- the child that a text names, if there is a text
abbrev pub child_of_text : (module_file : ℕ) → Option TextInFile → Forest → Option Tree
child_of_text module_file None ts = None
child_of_text module_file (Some written) ts = child_named module_file written.text ts
