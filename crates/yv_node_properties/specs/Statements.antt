-- The statements of files by their numbers, and those of a block by their keyword.
use Rattle.std.specs.Prelude.{ℕ, Bool, List, [], Option, None, Some, filter, map, slice_index_or}
use Rattle.std.specs.List.{find}
use Rattle.yv_text_statement.specs.Tree.{Head, Tree, Forest, End, trees, name_of}
use Rattle.yv_text_statement.specs.declared.keyword.Keyword.{Keyword}
use Rattle.yv_text_statement.specs.Keywords.{keyword_of, same}
use Rattle.yv_link_scopes.specs.Files.{Files}
use Rattle.yv_link_scopes.specs.Rows.{Row}
use Rattle.yv_link_scopes.specs.RowList.{rows_of, statements_of}

-- a statement has this keyword
abbrev pub is_of : Keyword → Tree → Bool
is_of keyword t = same (keyword_of t.head.keyword) keyword

-- the first statement of a block that has this keyword
abbrev pub first_of : Keyword → Forest → Option Tree
first_of keyword block = find (is_of keyword) (trees block)

-- the argument of a statement that may be there; no text where it isn't
abbrev pub argument_of : Option Tree → List ℕ
argument_of None = []
argument_of (Some t) = name_of t.head

-- the arguments of those of these statements that have this keyword, in order
abbrev pub arguments_among : Keyword → List Tree → List (List ℕ)
arguments_among keyword ts = map (λ t. name_of t.head) (filter (is_of keyword) ts)

-- what is where there is no statement
abbrev pub no_head : Head
no_head = record { keyword = []; argument = None; line = 0; offset = 0 }

-- a statement without keyword and block, for a number that none has
abbrev pub no_statement : Tree
no_statement = record { head = no_head; children = End }

-- the numbered statement of files
abbrev pub statement_at : Files → ℕ → Tree
statement_at files number = slice_index_or (statements_of files) number no_statement

-- the file in which it is
abbrev pub file_at : Files → ℕ → ℕ
file_at files number = let none : Row = record { file = 0; scope = 0; head = no_head }
    in (slice_index_or (rows_of files) number none).file
