-- Only private clauses cite this: nodes that are known to have a name.
use Rattle.std.specs.Prelude.{◌≡◌, ◌<◌, ℕ, List, length, Option, Some, None, slice_get}
use Rattle.yv_node_content.specs.Steps.{Step}
use Rattle.yv_nodes.specs.declared.node.NodeId.{NodeId}
use Rattle.yv_nodes.specs.Alike.{untyped_at}
use Rattle.yv_nodes.specs.Rows.{Row}
use Rattle.yv_text_statement.specs.TextInFile.{TextInFile}
use Rattle.yv_node_keys.specs.Numbers.{default_of}
use Rattle.yv_nodes.specs.InnerNamesakes.{HasName, HaveName}

-- it has the name that the default of a choice says
abbrev pub NamesDefault : List Row → (choice : ℕ) → Option NodeId → Type 0
NamesDefault rows choice namesake = (written : TextInFile)
    → default_of (slice_get rows choice) ≡ Some written → HaveName rows written.text namesake

-- the nodes at the places of names have these
abbrev pub HaveNames : List Row → List (Option Step) → List NodeId → Type 0
HaveNames rows keys namesakes = (i : ℕ) (s : Step) (n : NodeId) → slice_get keys i ≡ Some (Some s)
    → slice_get namesakes i ≡ Some n → HasName rows s.name n.0
