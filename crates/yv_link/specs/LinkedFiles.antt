-- What is known of files that were linked.
use Rattle.std.specs.Prelude.{◌≡◌, ℕ, Bool, List}
use Rattle.yv_text_statement.specs.Selection.{ModuleChoice}
use Rattle.yv_link_scopes.specs.Files.{Files}
use Rattle.yv_link_scopes.specs.Views.{lent_in, files_in}
use Rattle.yv_link_features.specs.Features.{AreFeatures, truth_of}
use Rattle.yv_link_identities.specs.Tables.{AreIdentities}
use Rattle.yv_link.specs.Modules.{AreModules}
use Rattle.yv_link.specs.declared.linked_files.Linked.{Linked}

-- these are the files, with what is chosen of them; how, only the readers ask
pub record AreLinked (files : Files) (choice : ModuleChoice) (linked : Linked) : Type 0 where
  pub lent : lent_in linked.rows ≡ files
  pub modules : AreModules choice (files_in linked.rows) linked.modules.items
  pub features : AreFeatures files choice linked.features
  pub identities : AreIdentities files linked.identities

-- what linked files tell of an expression in a file
abbrev pub truth_in : Linked → ℕ → List ℕ → Bool
truth_in linked file text = truth_of linked.features (lent_in linked.rows) file text
