-- The statements of a block, with what is in their blocks, as one numbered list.
use Rattle.std.specs.Prelude.{ℕ, ◌+◌, ◌==◌, Bool, List, [], ◌∷◌, ◌++◌, length, if◌then◌else◌}
use Rattle.std.specs.List.{list_any}
use Rattle.yv_text_statement.specs.Tree.{Head, Forest, Then, End, Tree, name_of}
use Rattle.yv_link_scopes.specs.declared.entry.Entry.{Entry}

-- a statement, its file's number, and the number of the block in which its names are
pub record Row : Type 0 where
  pub file : ℕ
  pub scope : ℕ
  pub head : Head

-- what is known of an entry
abbrev pub row : Entry → Row
row e = record { file = e.file; scope = e.scope; head = e.statement.now.head }

-- the statement itself, with what is in its block
abbrev pub tree : Entry → Tree
tree e = e.statement.now

-- the argument of a statement; no text without one
abbrev pub name_in : Row → List ℕ
name_in r = name_of r.head

-- a keyword with a prefix is an extension's
abbrev pub is_extended : List ℕ → Bool
is_extended keyword = list_any (λ byte. byte == 58) keyword

-- The statements of a block in order, each followed by those of its own block, the first having
-- this number. A block has the number of its statement. Nothing inside an extension's statement is
-- listed.
abbrev pub row_list : (file scope number : ℕ) → Forest → List Row
row_list file scope number End = []
row_list file scope number (Then h c o) =
    let inner : List Row = if is_extended h.keyword then [] else row_list file number (number + 1) c
    in
    record { file = file; scope = scope; head = h } ∷ inner
    ++ row_list file scope (number + 1 + length inner) o
