-- The names of files (RFC 7950, section 5.2).
use Rattle.std.specs.Prelude.{ℕ, ◌==◌, ◌&&◌, not, Bool, List, [], ◌∷◌, ◌++◌, codes, if◌then◌else◌}
use Rattle.std.specs.Str.{bytes_eq}
use Rattle.yv_text_statement.specs.Tree.{Tree}
use Rattle.yv_text_statement.specs.declared.keyword.Keyword.TheVariants as word
use Rattle.yv_link_scopes.specs.Files.{tree_name}
use Rattle.yv_lint.specs.Statements.{has_child}
use Rattle.yv_lint.specs.Dates.{dates_of, greatest}

-- what comes after the last slash (47), where this part was read before
abbrev pub last_part_after : (part : List ℕ) → List ℕ → List ℕ
last_part_after part [] = part
last_part_after part (b ∷ bs) =
    if b == 47 then last_part_after [] bs else last_part_after (part ++ b ∷ []) bs

-- the last part of a path
abbrev pub last_part : List ℕ → List ℕ
last_part path = last_part_after [] path

-- the name of a file without its revision
abbrev pub plain_name : Tree → List ℕ
plain_name root = tree_name root ++ codes ".yang"

-- the name of a file with its revision, the greatest of its dates
abbrev pub dated_name : Tree → List ℕ
dated_name root =
    tree_name root ++ (codes "@" ++ (greatest (dates_of root) ++ codes ".yang"))

-- a file has another name than its module or submodule asks for
abbrev pub is_misnamed : List ℕ → Tree → Bool
is_misnamed path root =
    not (bytes_eq (last_part path) (plain_name root))
    && not (has_child word.Revision root && bytes_eq (last_part path) (dated_name root))
