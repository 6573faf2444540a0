-- Only private clauses cite this: what a schema is made of.
use Rattle.std.specs.Prelude.{◌≡◌, ◌⊎◌, None, All}
use Rattle.yv_text_statement.specs.Order.{IsLeast}
use Rattle.yv_text_statement.specs.Selection.{ModuleChoice}
use Rattle.yv_text_statement.specs.declared.refusal.Refusal.{Refusal}
use Rattle.yv_link_scopes.specs.Files.{Files}
use Rattle.yv_types.specs.declared.type_table.Types.{Types}
use Rattle.yv_node_statements.specs.KnownTypes.{typing_of}
use Rattle.yv_expand_tree.specs.FinalTree.{AreKept, FinalTreeView}
use Rattle.yv_nodes.specs.Numbers.{numbers_from, rows_from}
use Rattle.yv_nodes.specs.Tree.{Forest}
use Rattle.yv_node_checks.specs.Bad.{BadTree}
use Rattle.yv_node_leafrefs.specs.Bad.{BadLeafrefs}
use Rattle.yv_node_leafrefs.specs.Resolution.{IsTyped}
use Rattle.yv_node_leafrefs.specs.Links.{AreLinks}
use Rattle.yv_schema_tables.specs.NodeNumbers.{AreModules, AreNumbered, made_of}
use Rattle.yv_schema_tables.specs.Sound.{IsNote}
use Rattle.yv_schema.specs.InnerBasis.{NumberedBasis, leafrefs_of, stated_of}
use Rattle.yv_schema.specs.InnerNotes.{notes_of}
use Rattle.yv_schema.specs.declared.parts.SchemaParts.{SchemaParts}

-- these files, what their types mean, and the nodes that are left of what they come to are those of
-- a basis
pub record IsBasisOf (choice : ModuleChoice) (files : Files) (types : Types) (tree : FinalTreeView)
    (b : NumberedBasis) : Type 0 where
  pub of_files : b.files ≡ files
  pub typing : typing_of types ≡ b.typing
  pub kept : AreKept choice b.files b.truth tree
  pub final : kept.final ≡ b.final
  pub nodes : kept.nodes ≡ b.nodes

-- there is such a basis
pub record HaveBasis (choice : ModuleChoice) (files : Files) (types : Types)
    (tree : FinalTreeView) : Type 0 where
  pub basis : NumberedBasis
  pub is : IsBasisOf choice files types tree basis

-- what is wrong with a tree, but for its rows
abbrev pub BadOther : NumberedBasis → Forest → Refusal → Type 0
BadOther b top f = BadTree top f ⊎ BadLeafrefs (leafrefs_of b) f

-- these are the parts of the schema of a basis
pub record AreParts (b : NumberedBasis) (p : SchemaParts) : Type 0 where
  pub tree : Forest
  pub is : IsTyped (leafrefs_of b) (stated_of b) tree
  pub rows : p.nodes.rows ≡ rows_from 0 tree
  pub top : p.top.items ≡ numbers_from 0 tree
  pub notes : p.notes.items ≡ notes_of b
  pub wrong : IsLeast (BadOther b tree) p.wrong
  pub links : p.wrong ≡ None → AreLinks (leafrefs_of b) p.links

-- a schema can be made of these
pub record AreReady (p : SchemaParts) : Type 0 where
  pub modules : AreModules p.modules.items
  pub numbers : AreNumbered p.modules.items p.nodes.rows p.top.items p.links
  pub notes : All (IsNote
      (made_of p.nodes.rows p.top.items p.nodes.limit p.modules.items p.notes.items p.links))
      p.notes.items
