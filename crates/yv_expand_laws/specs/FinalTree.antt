-- The final tree of files is the forest to which they expand (RFC 7950, sections 7.12, 7.13 and
-- 7.17).
use Rattle.std.specs.Prelude.{◌≡◌}
use Rattle.yv_text_statement.specs.Selection.{ModuleChoice}
use Rattle.yv_link_scopes.specs.Files.{Files}
use Rattle.yv_expand_definition.specs.Expansion.{Expand}
use Rattle.yv_expand_definition.specs.Gives.{Product}
use Rattle.yv_expand_tree.specs.Final.{Final, IsFinal}
use Rattle.yv_expand_statements.specs.FileOrder.{marks_of, order_of}
use Rattle.yv_expand_laws.specs.Files.{HaveRoots, ShowFiles}
use Rattle.yv_expand_laws.specs.StatementItems.{AreSound}
use Rattle.yv_expand_laws.specs.Shows.{Items}
use Rattle.yv_expand_laws.specs.Trees.{forest_shown}

-- before any condition is asked, the final tree by number shows what the files of the implemented
-- modules expand to
abbrev pub FinalTreeShows : Files → Type 0
FinalTreeShows files =
    (choice : ModuleChoice) (f : Final) (its : Items) (m : Product) → AreSound files → HaveRoots files
    → IsFinal choice files f
    → ShowFiles files (marks_of choice files) f.items its
    → Expand files (marks_of choice files) (order_of choice files) m
    → m.nodes ≡ forest_shown its f.tree
