-- The version of YANG in which a file is written (RFC 7950, sections 7.1.2 and 12).
use Rattle.std.specs.Prelude.{◌≡◌, ℕ, ◌&&◌, not, Bool, false, Option, Some, None, List, codes, if◌then◌else◌}
use Rattle.std.specs.List.{find, list_any}
use Rattle.std.specs.Option.{option_map}
use Rattle.std.specs.Str.{bytes_eq}
use Rattle.yv_text_statement.specs.Tree.{Tree, trees}
use Rattle.yv_text_statement.specs.declared.keyword.Keyword.TheVariants as word
use Rattle.yv_link_scopes.specs.Files.{Files, tree_name}
use Rattle.yv_lint.specs.Places.{Place}
use Rattle.yv_lint.specs.Statements.{has_child, has_keyword}

-- a statement is `yang-version 1.1`
abbrev pub says_newer : Tree → Bool
says_newer t = has_keyword word.YangVersion t && bytes_eq (tree_name t) (codes "1.1")

-- a file is of version 1.1 where its root has that, and else of version 1
abbrev pub is_newer_file : Tree → Bool
is_newer_file root = list_any says_newer (trees root.children)

-- the first file with this name
abbrev pub root_named : Files → List ℕ → Option Tree
root_named files name = find (λ root. bytes_eq (tree_name root) name) files

-- whether the file with this name is of version 1.1, where it is there
abbrev pub version_named : Files → List ℕ → Option Bool
version_named files name = option_map is_newer_file (root_named files name)

-- a version that may be there is the other one
abbrev pub differs_from : Bool → Option Bool → Bool
differs_from newer None = false
differs_from newer (Some other) = if newer then not other else other

-- a version that may be there is 1.1
abbrev pub is_newer_version : Option Bool → Bool
is_newer_version None = false
is_newer_version (Some newer) = newer

-- an import asks for a revision
abbrev pub is_dated_import : Tree → Bool
is_dated_import t = has_keyword word.Import t && has_child word.RevisionDate t

-- a submodule of the other version may not be included, and a file of version 1 may not import a
-- module of version 1.1 by its revision
abbrev pub mixes_versions : Files → Tree → Tree → Bool
mixes_versions files root t =
    let other : Option Bool = version_named files (tree_name t) in
    if has_keyword word.Include t then differs_from (is_newer_file root) other
    else is_dated_import t && (not (is_newer_file root) && is_newer_version other)

-- the file that the statement at a place names is of one version among some files and among others
abbrev pub HaveSameVersion : Files → Files → Place → Type 0
HaveSameVersion files others p =
    version_named files (tree_name p.statement) ≡ version_named others (tree_name p.statement)
