-- The nodes that are left when conditions are asked show the schema of the files (RFC 7950, section
-- 7.20.2).
use Rattle.std.specs.Prelude.{ℕ, List, None}
use Rattle.yv_text_statement.specs.Order.{IsLeast}
use Rattle.yv_text_statement.specs.Selection.{ModuleChoice}
use Rattle.yv_link_scopes.specs.Files.{Files}
use Rattle.yv_link_features.specs.Refusals.{BadFeatures}
use Rattle.yv_link_features.specs.On.{Holds}
use Rattle.yv_expand.specs.Tree.{Nodes}
use Rattle.yv_expand_statements.specs.Truth.{Truth}
use Rattle.yv_expand_tree.specs.Final.{Final, IsFinal}
use Rattle.yv_expand_statements.specs.FileOrder.{marks_of}
use Rattle.yv_expand_tree.specs.Remains.{AreLeft}
use Rattle.yv_expand_definition.specs.Remains.{AreNodes}
use Rattle.yv_expand_laws.specs.Files.{HaveRoots, ShowFiles}
use Rattle.yv_expand_laws.specs.Schema.{shown_nodes}
use Rattle.yv_expand_laws.specs.Shows.{Items}
use Rattle.yv_expand_laws.specs.StatementItems.{AreSound}

-- the items of files show nodes, and what is left of the final tree shows of these the nodes of the
-- schema, where nothing is refused of the features and `truth` tells which expressions hold
abbrev pub LeftIsSchema : Files → Type 0
LeftIsSchema files =
    (choice : ModuleChoice) (truth : Truth) (f : Final) (nodes : Nodes) → AreSound files
    → HaveRoots files → IsLeast (BadFeatures files) None
    → ((file : ℕ) (text : List ℕ) → Holds files choice file text (truth file text))
    → IsFinal choice files f → AreLeft truth files f nodes
    → (its : Items) × ShowFiles files (marks_of choice files) f.items its
    × AreNodes choice files (shown_nodes its nodes)
