-- The schema of files as that of the tree to which they expand (RFC 7950, sections 5.6.5, 7.5 to
-- 7.17, and 9.9).
use Rattle.std.specs.Prelude.{◌≡◌, List, [], ◌∷◌, ◌++◌, Option, slice_get}
use Rattle.std.specs.Option.{option_and_then}
use Rattle.yv_text_statement.specs.Selection.{ModuleChoice}
use Rattle.yv_link_scopes.specs.Files.{Files}
use Rattle.yv_node_statements.specs.Kinds.{AreTyped, TypeMeanings}
use Rattle.yv_node_statements.specs.Definitions.{refined_definition}
use Rattle.yv_expand_statements.specs.Truth.{Truth, IsTruth}
use Rattle.yv_expand_definition.specs.Nodes.{Node}
use Rattle.yv_expand_definition.specs.Nodes as expanded
use Rattle.yv_expand_definition.specs.Remains.{AreNodes}
use Rattle.yv_nodes.specs.Labels.{label_of}
use Rattle.yv_nodes.specs.Link.{Link}
use Rattle.yv_nodes.specs.Numbers.{rows_from}
use Rattle.yv_nodes.specs.Tree.{Forest, Label, node, no_trees, tree}
use Rattle.yv_node_leafrefs.specs.Links.{AreLinks}
use Rattle.yv_node_leafrefs.specs.Resolution.{IsTyped}
use Rattle.yv_node_leafrefs.specs.Schema.{Referral, Schema}
use Rattle.yv_schema.specs.Module.{module_name}
use Rattle.yv_schema.specs.Referrals.{referral_at}

-- what a schema is made of: the statements of files, which of their conditions hold, what their
-- types mean, and the nodes that conditions leave of the tree to which the files expand
pub record Basis : Type 0 where
  pub files : Files
  pub truth : Truth
  pub typing : TypeMeanings
  pub nodes : expanded.Forest

-- what a node is, below these nodes, the nearest first: by what its statement and its refines say,
-- and by the module to which it belongs
abbrev pub label_at : Basis → (above : List Label) → Node → Label
label_at b above g =
    label_of (refined_definition b.typing b.files g.origin g.refines) g.module_file
    (module_name b.files g.module_file) above

-- these nodes as schema nodes, below these
abbrev pub with_labels : Basis → (above : List Label) → expanded.Forest → Forest
with_labels b above expanded.none = no_trees
with_labels b above (expanded.node g below behind) =
    let own : Label = label_at b above g in
    tree (node own (with_labels b (own ∷ above) below)) (with_labels b above behind)

-- the schema tree as its statements say it, in which the values of leafrefs have no types yet
abbrev pub stated_of : Basis → Forest
stated_of b = with_labels b [] b.nodes

-- nodes in order, each before those below it: a node's number is its place among these
abbrev pub node_list : expanded.Forest → List Node
node_list expanded.none = []
node_list (expanded.node g below behind) = g ∷ node_list below ++ node_list behind

-- what a node says as a leafref (section 9.9)
abbrev pub referral_of_node : Basis → Node → Option Referral
referral_of_node b g = referral_at b.typing b.files g.origin

-- the rows of that tree, and what they say as leafrefs
abbrev pub leafrefs_of : Basis → Schema
leafrefs_of b = record {
  rows = rows_from 0 (stated_of b);
  says = λ n. option_and_then (referral_of_node b) (slice_get (node_list b.nodes) n);
}

-- a basis is that of files under a choice: their conditions hold so, their `type` statements stand
-- for this, and these nodes are left of the tree to which the files of the implemented modules
-- expand
pub record IsBasis (choice : ModuleChoice) (b : Basis) : Type 0 where
  pub truth : IsTruth b.files choice b.truth
  pub typing : AreTyped b.files choice b.truth b.typing
  pub nodes : AreNodes choice b.files b.nodes

-- something holds of a basis of these files under a choice of modules
pub record HoldsOfBasis (choice : ModuleChoice) (files : Files)
    (Holds : Basis → Type 0) : Type 0 where
  pub basis : Basis
  pub of_files : basis.files ≡ files
  pub is_basis : IsBasis choice basis
  pub is : Holds basis

-- this is the schema tree of the files: the nodes to which they expand, as their statements say
-- them, with the leafrefs resolved (section 9.9)
abbrev pub IsSchema : ModuleChoice → Files → Forest → Type 0
IsSchema choice files forest =
    HoldsOfBasis choice files (λ b. IsTyped (leafrefs_of b) (stated_of b) forest)

-- this is where the paths of its leafrefs lead that require an instance, each at the number of its
-- node (sections 9.9.2 and 9.9.3)
abbrev pub AreReferences : ModuleChoice → Files → List (Option Link) → Type 0
AreReferences choice files links =
    HoldsOfBasis choice files (λ b. AreLinks (leafrefs_of b) links)
