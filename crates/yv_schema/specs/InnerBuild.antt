-- Only private clauses cite this: what is known before a schema is built, and what is refused of it
-- first.
use Rattle.std.specs.Prelude.{◌≡◌, ◌≢◌, ◌<◌, ℕ, true, slice_get, Some}
use Rattle.yv_text_statement.specs.Tree as statement
use Rattle.yv_text_grammar.specs.Refusals.{Bad}
use Rattle.yv_text_grammar.specs.declared.xpath.Xpath.TheVariants.{Refuse}
use Rattle.yv_text_statement.specs.Selection.{ModuleChoice}
use Rattle.yv_link_scopes.specs.Files.{Files, tree_name}
use Rattle.yv_expand_statements.specs.FileOrder.{HaveModuleFiles, is_given}
use Rattle.std.specs.declared.option.Option.{Option}
use Rattle.std.specs.declared.result.Result.{Result}
use Rattle.std.specs.declared.result.Result.TheVariants.{Ok, Err}
use Rattle.yv_text_statement.specs.Order.{IsLeast, IsLesser}
use Rattle.yv_text_statement.specs.declared.refusal.Refusal.{Refusal}
use Rattle.yv_text_statement.specs.declared.refusal.Stop.{Stop}
use Rattle.yv_text_statement.specs.declared.refusal.Stop.TheVariants.{Fault}
use Rattle.yv_nodes.specs.Rows.{Rows}
use Rattle.yv_nodes.specs.Tree.{Forest}
use Rattle.yv_node_leafrefs.specs.Resolution.{IsTyped}
use Rattle.yv_schema_tables.specs.NodeNumbers.{HasNoColon}
use Rattle.yv_schema.specs.InnerBasis.{NumberedBasis, leafrefs_of, stated_of}
use Rattle.yv_schema.specs.Refusals.{BadNodes}

-- the modules of files: nothing is wrong with a file as such, the names of modules have no colon
-- and differ, and the files of those that are implemented have these
pub record AreNames (choice : ModuleChoice) (files : Files) : Type 0 where
  pub fine : (n : ℕ) (t : statement.Tree) (f : Refusal) → slice_get files n ≡ Some t → Bad Refuse t f → ⊥
  pub plain : (n : ℕ) (t : statement.Tree) → slice_get files n ≡ Some t → is_given choice t ≡ true
      → HasNoColon (tree_name t)
  pub differ : (m n : ℕ) (t u : statement.Tree) → m < n → slice_get files m ≡ Some t
      → slice_get files n ≡ Some u
      → is_given choice t ≡ true → is_given choice u ≡ true → tree_name t ≢ tree_name u
  pub module_files : HaveModuleFiles choice files

-- the least of what is wrong with the schema tree of a basis
pub record HasLeast (b : NumberedBasis) (o : Option Refusal) : Type 0 where
  pub tree : Forest
  pub is : IsTyped (leafrefs_of b) (stated_of b) tree
  pub least : IsLeast (BadNodes (leafrefs_of b) tree) o

-- the first refusal of what is built of nodes, or of what is wrong with them
pub data IsFirst (numbered : Result Rows Stop) (wrong : Option Refusal) (r : Refusal) : Type 0 where
  of_tree : (s : Rows) → numbered ≡ Ok s → wrong ≡ Some r → IsFirst numbered wrong r
  of_both : (duplicate : Refusal) → numbered ≡ Err (Fault duplicate)
      → IsLesser (Some duplicate) wrong (Some r) → IsFirst numbered wrong r
