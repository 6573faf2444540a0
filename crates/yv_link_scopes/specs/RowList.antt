-- All statements of the files as one numbered list.
use Rattle.std.specs.Prelude.{ℕ, ◌+◌, List, [], ◌∷◌, ◌++◌, map, length, Some, if◌then◌else◌}
use Rattle.yv_text_statement.specs.Tree.{Tree, Forest, Then, End}
use Rattle.yv_link_scopes.specs.Rows.{Row, is_extended, row_list}
use Rattle.yv_link_scopes.specs.Files.{Files, Briefs, brief_of, module_file_in}

-- the roots, each its own block
abbrev pub roots_from : ℕ → Files → List Row
roots_from n [] = []
roots_from n (t ∷ ts) = record { file = n; scope = n; head = t.head } ∷ roots_from (n + 1) ts

-- what is in a file's root: the names at its top are in the block of its module's root, so that a
-- module and its submodules see one another's definitions (RFC 7950, section 5.1)
abbrev pub body_of : Briefs → ℕ → ℕ → Tree → List Row
body_of files number n t = row_list n (module_file_in files n (Some (brief_of t))) number t.children

-- the statements in the blocks of these roots, in order, with their files from number n on
abbrev pub bodies : Briefs → ℕ → ℕ → Files → List Row
bodies files number n [] = []
bodies files number n (t ∷ ts) =
    body_of files number n t ++ bodies files (number + length (body_of files number n t)) (n + 1) ts

-- the roots by file, so that a root has its file's number, and then the other statements by file
-- and offset
abbrev pub rows_of : Files → List Row
rows_of files = roots_from 0 files ++ bodies (map brief_of files) (length files) 0 files

-- the statements of a block in order, each followed by those of its own block, as they are numbered
abbrev pub statements_in : Forest → List Tree
statements_in End = []
statements_in (Then h c o) =
    let inner : List Tree = if is_extended h.keyword then [] else statements_in c in
    record { head = h; children = c } ∷ inner ++ statements_in o

-- the statements in the blocks of these
abbrev pub inner_statements : Files → List Tree
inner_statements [] = []
inner_statements (t ∷ ts) = statements_in t.children ++ inner_statements ts

-- the statement of each number, with what is in its block
abbrev pub statements_of : Files → List Tree
statements_of files = files ++ inner_statements files
