-- Only private clauses cite this: what is known of files before their nodes are built.
use Rattle.std.specs.Prelude.{◌≡◌}
use Rattle.yv_text_statement.specs.Selection.{ModuleChoice}
use Rattle.yv_link_scopes.specs.Files.{Files}
use Rattle.yv_node_statements.specs.Context.{files_in, typing_in}
use Rattle.yv_node_statements.specs.declared.definitions.Definitions.{Definitions}
use Rattle.yv_node_statements.specs.RefinedContext.{files_of, sequences_of, typing_of}
use Rattle.yv_node_statements.specs.declared.refined_definitions.RefinedDefinitions.{RefinedDefinitions}
use Rattle.yv_expand_tree.specs.FinalTree.{AreKept, FinalTreeView}
use Rattle.yv_schema.specs.InnerBasis.{NumberedBasis}
use Rattle.yv_schema.specs.declared.context.Context.{Context}

-- these are the definitions of nodes as the refines of a tree change them
pub record IsRefinedOf (definitions : Definitions) (tree : FinalTreeView)
    (refined : RefinedDefinitions) : Type 0 where
  pub files : files_of refined ≡ files_in definitions
  pub typing : typing_of refined ≡ typing_in definitions
  pub sequences : sequences_of refined ≡ tree.changes.sequences

-- the context tells of this basis
pub record Tells (b : NumberedBasis) (c : Context) : Type 0 where
  pub files : files_in c.definitions.now ≡ b.files
  pub typing : typing_in c.definitions.now ≡ b.typing
  pub refined : IsRefinedOf c.definitions.now c.tree.now c.refined.now
  pub choice : ModuleChoice
  pub kept : AreKept choice b.files b.truth c.tree.now
  pub final : kept.final ≡ b.final
  pub nodes : kept.nodes ≡ b.nodes

-- the context tells of a basis
pub record IsTold (c : Context) : Type 0 where
  pub basis : NumberedBasis
  pub tells : Tells basis c

-- the context tells of a basis with these files, of which this was chosen
pub record TellsOf (choice : ModuleChoice) (files : Files) (c : Context) : Type 0 where
  pub basis : NumberedBasis
  pub of_files : basis.files ≡ files
  pub tells : Tells basis c
  pub chosen : tells.choice ≡ choice
