-- The nodes that are left when conditions are asked are those that the files leave (RFC 7950,
-- section 7.20.2).
use Rattle.std.specs.Prelude.{ℕ, List, None}
use Rattle.yv_text_statement.specs.Order.{IsLeast}
use Rattle.yv_text_statement.specs.Selection.{ModuleChoice}
use Rattle.yv_link_scopes.specs.Files.{Files}
use Rattle.yv_link_features.specs.Refusals.{BadFeatures}
use Rattle.yv_link_features.specs.On.{Holds}
use Rattle.yv_expand.specs.Tree.{Nodes}
use Rattle.yv_expand.specs.Tree as by_number
use Rattle.yv_expand_statements.specs.Truth.{Truth}
use Rattle.yv_expand_tree.specs.Final.{Final, IsFinal}
use Rattle.yv_expand_statements.specs.FileOrder.{marks_of, order_of}
use Rattle.yv_expand_tree.specs.Remains.{AreLeft}
use Rattle.yv_expand_definition.specs.Expansion.{Expand}
use Rattle.yv_expand_definition.specs.Gives.{Product}
use Rattle.yv_expand_definition.specs.Remains.{AreNodes}
use Rattle.yv_expand_definition.specs.Nodes.{Forest, none, node}
use Rattle.yv_expand_laws.specs.Files.{HaveRoots, ShowFiles}
use Rattle.yv_expand_laws.specs.StatementItems.{AreSound}
use Rattle.yv_expand_laws.specs.Shows.{Items}

-- what nodes by number show
abbrev pub shown_nodes : Items → Nodes → Forest
shown_nodes its by_number.none = none
shown_nodes its (by_number.item i below behind) =
    node (its.node_of i) (shown_nodes its below) (shown_nodes its behind)

-- what is left of the final tree shows the nodes of the schema, where nothing is refused of the
-- features and `truth` tells which expressions hold
abbrev pub LeftShows : Files → Type 0
LeftShows files =
    (choice : ModuleChoice) (truth : Truth) (f : Final) (its : Items) (m : Product) (nodes : Nodes)
    → AreSound files → HaveRoots files
    → IsLeast (BadFeatures files) None
    → ((file : ℕ) (text : List ℕ) → Holds files choice file text (truth file text))
    → IsFinal choice files f
    → ShowFiles files (marks_of choice files) f.items its
    → Expand files (marks_of choice files) (order_of choice files) m
    → AreLeft truth files f nodes → AreNodes choice files (shown_nodes its nodes)
