-- Files that conform are as the laws about their final trees need them: each root is a module or a
-- submodule, each uses refers to a grouping and says nothing of `mandatory`, and an augment that
-- gives something has more in its block than an `input` or an `output` (RFC 7950, sections 7.1,
-- 7.2, 7.13.1 and 7.17.1).
use Rattle.std.specs.Prelude.{◌≡◌, ◌≤◌, ◌↔◌, ℕ, List, None, Some, length, slice_get}
use Rattle.yv_text_statement.specs.Order.{IsLeast}
use Rattle.yv_text_statement.specs.declared.refusal.Refusal.{Refusal}
use Rattle.yv_text_statement.specs.Selection.{ModuleChoice}
use Rattle.yv_text_statement.specs.Tree.{Tree}
use Rattle.yv_text_grammar.specs.Refusals.{Bad}
use Rattle.yv_text_grammar.specs.declared.xpath.Xpath.TheVariants.{Skip}
use Rattle.yv_link_scopes.specs.Files.{Files}
use Rattle.yv_link_scopes.specs.RowList.{rows_of}
use Rattle.yv_link_features.specs.On.{Holds}
use Rattle.yv_link_features.specs.Refusals.{BadFeatures}
use Rattle.yv_link_definitions.specs.Refusals.{BadNames}
use Rattle.yv_expand.specs.Tree.{Nodes}
use Rattle.yv_expand_statements.specs.Truth.{Truth}
use Rattle.yv_expand_statements.specs.FileOrder.{marks_of}
use Rattle.yv_expand_tree.specs.Final.{Final, IsFinal}
use Rattle.yv_expand_tree.specs.Refusals.{BadFinal}
use Rattle.yv_expand_tree.specs.Remains.{AreLeft}
use Rattle.yv_expand_definition.specs.Refusals.{BadExpanded}
use Rattle.yv_expand_definition.specs.Remains.{AreNodes}
use Rattle.yv_expand_laws.specs.Files.{ShowFiles}
use Rattle.yv_expand_laws.specs.Schema.{shown_nodes}
use Rattle.yv_expand_laws.specs.Shows.{Items}

-- nothing is refused of any of the files by itself, where conditions are skipped
abbrev pub NoFileIsBad : Files → Type 0
NoFileIsBad files = (n : ℕ) (t : Tree) → slice_get files n ≡ Some t
    → IsLeast (Bad Skip t) None

-- nothing is refused of the files by themselves and of the names of their definitions, and their
-- statements can be numbered
pub record AreAccepted (files : Files) : Type 0 where
  pub each : NoFileIsBad files
  pub names : IsLeast (BadNames files) None
  pub few : length (rows_of files) ≤ 4294967293

-- where such files have a final tree, they are refused for one where their expansion is refused
abbrev pub ConformingRefusalsAreOne : Files → Type 0
ConformingRefusalsAreOne files =
    (choice : ModuleChoice) (f : Final) (r : Refusal) → AreAccepted files → IsFinal choice files f
    → BadFinal choice files r ↔ BadExpanded choice files r

-- the items of such files show nodes, and what is left of the final tree shows of these the nodes
-- of the schema, where nothing is refused of the features and `truth` tells which expressions hold
abbrev pub ConformingLeftIsSchema : Files → Type 0
ConformingLeftIsSchema files =
    (choice : ModuleChoice) (truth : Truth) (f : Final) (nodes : Nodes) → AreAccepted files
    → IsLeast (BadFeatures files) None
    → ((file : ℕ) (text : List ℕ) → Holds files choice file text (truth file text))
    → IsFinal choice files f → AreLeft truth files f nodes
    → (its : Items) × ShowFiles files (marks_of choice files) f.items its
    × AreNodes choice files (shown_nodes its nodes)
