-- Statements and what is in their blocks, by their keywords (RFC 7950, sections 6.3 and 14).
use Rattle.std.specs.Prelude.{ℕ, Bool, List, Option}
use Rattle.std.specs.List.{find, list_any}
use Rattle.yv_text_statement.specs.Tree.{Tree, trees}
use Rattle.yv_text_statement.specs.Keywords.{keyword_of, same}
use Rattle.yv_text_statement.specs.declared.keyword.Keyword.{Keyword}
use Rattle.yv_link_scopes.specs.Files.{first_name}

-- a keyword is one of these
abbrev pub is_one_of : List Keyword → Keyword → Bool
is_one_of keywords k = list_any (same k) keywords

-- the keyword of a statement
abbrev pub keyword_at : Tree → Keyword
keyword_at t = keyword_of t.head.keyword

-- a statement has this keyword
abbrev pub has_keyword : Keyword → Tree → Bool
has_keyword k t = same (keyword_at t) k

-- one of these statements has this keyword
abbrev pub has_one : Keyword → List Tree → Bool
has_one k ts = list_any (has_keyword k) ts

-- the first statement with this keyword in the block of another
abbrev pub child : Keyword → Tree → Option Tree
child k t = find (has_keyword k) (trees t.children)

-- the block of a statement has one with this keyword
abbrev pub has_child : Keyword → Tree → Bool
has_child k t = has_one k (trees t.children)

-- the argument of the first statement with this keyword in a block; no text where there is none
abbrev pub child_name : Keyword → Tree → List ℕ
child_name k t = first_name (child k t)
