-- Only private clauses cite this: nodes that are known to have a name.
use Rattle.std.specs.Prelude.{◌≡◌, ◌<◌, ℕ, List, length, Option, Some, None, slice_get}
use Rattle.std.specs.List.{slice_index_or}
use Rattle.yv_node_content.specs.Definition.{own_default}
use Rattle.yv_text_statement.specs.TextInFile.{TextInFile}
use Rattle.yv_nodes.specs.declared.node.NodeId.{NodeId}
use Rattle.yv_nodes.specs.Alike.{untyped_at}
use Rattle.yv_nodes.specs.Rows.{Row, blank_row}
use Rattle.yv_node_checks.specs.InnerBelow.{case_among}
use Rattle.yv_nodes.specs.InnerNamesakes.{HaveName}

-- it has the name that a default says
abbrev pub NamesDefault : List Row → Option TextInFile → Option NodeId → Type 0
NamesDefault rows default namesake =
    (written : TextInFile) → default ≡ Some written → HaveName rows written.text namesake

abbrev pub case_of_row : List Row → Row → Option NodeId
case_of_row rows r = case_among rows r.label.module_file (own_default r.label.defined) r.children

-- the default case of the node of a number
abbrev pub case_at : List Row → ℕ → Option NodeId
case_at rows n = case_of_row rows (slice_index_or rows n blank_row)

-- these are the default cases of the first nodes
abbrev pub AreCases : List Row → List (Option NodeId) → Type 0
AreCases rows cases =
    (k : ℕ) (case : NodeId) → slice_get cases k ≡ Some (Some case) → case_at rows k ≡ Some case
