-- Only private clauses cite this: the schema tree by the numbered items of an expansion (RFC 7950,
-- sections 5.6.5, 7.5 to 7.17).
use Rattle.std.specs.Prelude.{ℕ, List, [], ◌∷◌, Option, None, slice_get, slice_index_or}
use Rattle.std.specs.Option.{option_and_then}
use Rattle.yv_text_statement.specs.Selection.{ModuleChoice}
use Rattle.yv_link_scopes.specs.Files.{Files}
use Rattle.yv_expand.specs.Tree.{Node, Nodes, item_list}
use Rattle.yv_expand.specs.Tree as left
use Rattle.yv_node_statements.specs.Kinds.{AreTyped, TypeMeanings}
use Rattle.yv_node_statements.specs.Definitions.{refined_definition}
use Rattle.yv_expand_statements.specs.Truth.{IsTruth, Truth}
use Rattle.yv_expand_tree.specs.Final.{Final, IsFinal, changes_of, spots_of}
use Rattle.yv_expand_tree.specs.Remains.{AreLeft}
use Rattle.yv_expand_tree.specs.FinalTree.{module_file_of_item, origin_at}
use Rattle.yv_nodes.specs.Labels.{label_of}
use Rattle.yv_nodes.specs.Numbers.{rows_from}
use Rattle.yv_nodes.specs.Tree.{Label, node, Forest, no_trees, tree}
use Rattle.yv_node_leafrefs.specs.Schema.{Referral, Schema}
use Rattle.yv_schema.specs.Referrals.{referral_at}
use Rattle.yv_schema.specs.Module.{module_name}

-- what a schema is made of: the statements of files, which of their conditions hold, what their
-- types mean, what they come to when all augments were applied, and the nodes that conditions
-- leave of that
pub record NumberedBasis : Type 0 where
  pub files : Files
  pub truth : Truth
  pub typing : TypeMeanings
  pub final : Final
  pub nodes : Nodes

-- a basis is that of files under a choice: their conditions hold so, their `type` statements stand
-- for this, this is what the modules that are implemented come to, and these nodes are left of it
pub record IsNumberedBasis (choice : ModuleChoice) (b : NumberedBasis) : Type 0 where
  pub truth : IsTruth b.files choice b.truth
  pub typing : AreTyped b.files choice b.truth b.typing
  pub final : IsFinal choice b.files b.final
  pub nodes : AreLeft b.truth b.files b.final b.nodes

-- the file of the module to which a numbered item belongs: that in which the statement is that put
-- it there outside groupings (sections 7.13 and 7.17)
abbrev pub module_file_of : NumberedBasis → (item : ℕ) → ℕ
module_file_of b item = module_file_of_item (spots_of b.files b.final) item

-- what the node of a numbered item is, below these nodes, the nearest first
abbrev pub label_at : NumberedBasis → (above : List Label) → (item : ℕ) → Label
label_at b above item =
    label_of (refined_definition b.typing b.files (origin_at b.final.items item)
    (slice_index_or (changes_of b.files b.final) item []))
    (module_file_of b item) (module_name b.files (module_file_of b item)) above

-- the schema nodes of the items that are left, in order, below these nodes
abbrev pub with_labels : NumberedBasis → (above : List Label) → Nodes → Forest
with_labels b above left.none = no_trees
with_labels b above (left.item number below behind) =
    let own : Label = label_at b above number
    in tree (node own (with_labels b (own ∷ above) below)) (with_labels b above behind)

-- the schema tree as its statements say it, in which the values of leafrefs have no types yet
abbrev pub stated_of : NumberedBasis → Forest
stated_of b = with_labels b [] b.nodes

-- the nodes that are left, in order: a node's number is its place among these
abbrev pub nodes_in : NumberedBasis → List Node
nodes_in b = item_list None 0 b.nodes

-- what a node that is left says as a leafref (section 9.9)
abbrev pub said_of : NumberedBasis → Node → Option Referral
said_of b x = referral_at b.typing b.files (origin_at b.final.items x.origin)

-- the rows of that tree, and what they say as leafrefs
abbrev pub leafrefs_of : NumberedBasis → Schema
leafrefs_of b = record {
  rows = rows_from 0 (stated_of b);
  says = λ n. option_and_then (said_of b) (slice_get (nodes_in b) n);
}
