-- What `Rows` has.
use Rattle.std.specs.Prelude.{List, map}
use Rattle.yv_text_statement.specs.Tree.{Tree}
use Rattle.yv_link_scopes.specs.Rows.{Row}
use Rattle.yv_link_scopes.specs.Files.{Files, Briefs, brief_of}
use Rattle.yv_link_scopes.specs.RowList.{rows_of, statements_of}
use Rattle.yv_link_scopes.specs.declared.rows.Rows.{Rows}

-- the statements of the files that were lent
abbrev pub lent_in : Rows → Files
lent_in rows = rows.roots.now

-- their files
abbrev pub files_in : Rows → Briefs
files_in rows = map brief_of (lent_in rows)

-- their statements, numbered
abbrev pub rows_in : Rows → List Row
rows_in rows = rows_of (lent_in rows)

-- the statement of each number
abbrev pub trees_in : Rows → List Tree
trees_in rows = statements_of (lent_in rows)
