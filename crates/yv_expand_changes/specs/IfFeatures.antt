-- Which conditions of statements and of items hold (RFC 7950, sections 7.13.2 and 7.20.2).
use Rattle.std.specs.Prelude.{ℕ, ◌&&◌, Bool, List, [], ◌∷◌}
use Rattle.std.specs.List.{list_all}
use Rattle.yv_text_statement.specs.Tree.{Tree, Forest, trees}
use Rattle.yv_link_scopes.specs.Files.{Files}
use Rattle.yv_link_scopes.specs.Rows.{Row}
use Rattle.yv_link_scopes.specs.RowList.{rows_of, statements_of}
use Rattle.yv_link_features.specs.Blocks.{all_hold}
use Rattle.yv_base_graph.specs.Marks.{is_marked}
use Rattle.yv_expand_uses.specs.declared.spot.Spot.{Spot}
use Rattle.yv_expand_statements.specs.Truth.{Truth}

-- a statement of a file with this block is there: each of its conditions holds
abbrev pub is_on : Truth → (file : ℕ) → Forest → Bool
is_on truth file block = all_hold (truth file) (trees block)

-- of each statement, whether its own conditions hold
abbrev pub marks_of : Truth → List Row → List Tree → List Bool
marks_of truth [] ts = []
marks_of truth (r ∷ rs) [] = []
marks_of truth (r ∷ rs) (t ∷ ts) = is_on truth r.file t.children ∷ marks_of truth rs ts

-- a mark for each numbered statement whose conditions hold, in the file in which it is
abbrev pub statement_marks : Truth → Files → List Bool
statement_marks truth files = marks_of truth (rows_of files) (statements_of files)

-- the conditions of the statement that gives an item hold, and those of each refine that changes
-- it, which are added to them
abbrev pub is_on_with : (statements : List Bool) → Spot → (changes : List ℕ) → Bool
is_on_with statements s changes =
    is_marked statements s.statement && list_all (is_marked statements) changes

-- a mark for each item of whose own conditions this is so
abbrev pub item_marks : (statements : List Bool) → List Spot → (changes : List (List ℕ)) → List Bool
item_marks statements [] changes = []
item_marks statements (s ∷ ss) [] = is_on_with statements s [] ∷ item_marks statements ss []
item_marks statements (s ∷ ss) (c ∷ cs) = is_on_with statements s c ∷ item_marks statements ss cs
