-- In whose block a statement of the list is.
use Rattle.std.specs.Prelude.{◌≡◌, ℕ, ◌≤◌, ◌⊎◌, map, length, Some, slice_get}
use Rattle.yv_text_statement.specs.Tree.{Tree, trees}
use Rattle.yv_link_scopes.specs.Files.{Files, brief_of, module_file_at}
use Rattle.yv_link_scopes.specs.Rows.{Row}
use Rattle.yv_link_scopes.specs.RowList.{rows_of, statements_of}

-- a statement is one of those in the block of another
abbrev pub IsIn : Tree → Tree → Type 0
IsIn block t = (i : ℕ) × (slice_get (trees block.children) i ≡ Some t)

-- it is at the top of its file, and its names in the block of the file's module_file
abbrev pub StandsAtTop : Files → Row → Tree → Type 0
StandsAtTop files r t =
    (root : Tree) × (slice_get files r.file ≡ Some root) × IsIn root t
    × (r.scope ≡ module_file_at (map brief_of files) r.file)

-- it is in the block of a statement of its file that isn't a root, and that has the number of its
-- names' block
abbrev pub StandsBelow : Files → Row → Tree → Type 0
StandsBelow files r t =
    (q : Row) × (s : Tree) × (slice_get (rows_of files) r.scope ≡ Some q)
    × (slice_get (statements_of files) r.scope ≡ Some s)
    × IsIn s t × (q.file ≡ r.file) × (length files ≤ r.scope)

-- the numbered statement is in the block of another
abbrev pub StandsIn : Files → ℕ → Type 0
StandsIn files number =
    (r : Row) (t : Tree) → slice_get (rows_of files) number ≡ Some r
    → slice_get (statements_of files) number ≡ Some t
    → StandsAtTop files r t ⊎ StandsBelow files r t
