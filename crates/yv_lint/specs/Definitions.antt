-- Typedefs and groupings that nothing uses (RFC 7950, sections 5.5, 7.3 and 7.12).
use Rattle.std.specs.Prelude.{ℕ, ◌&&◌, not, Bool, true, List, [], ◌∷◌, ◌++◌, Option, Some, None, if◌then◌else◌}
use Rattle.std.specs.List.{list_any}
use Rattle.std.specs.Str.{bytes_eq}
use Rattle.yv_text_statement.specs.Tree.{Tree, Forest, Then, End}
use Rattle.yv_text_statement.specs.declared.keyword.Keyword.{Keyword}
use Rattle.yv_text_statement.specs.declared.keyword.Keyword.TheVariants as word
use Rattle.yv_link_scopes.specs.Files.{tree_name, is_module}
use Rattle.yv_link_scopes.specs.Names.{prefix_of, local_of}
use Rattle.yv_lint.specs.Statements.{child, child_name, has_keyword}
use Rattle.yv_lint.specs.Places.{Place}

-- the prefix of a file for its own module
abbrev pub prefix_in : Option Tree → List ℕ
prefix_in None = []
prefix_in (Some t) = child_name word.Prefix t

-- a module declares it itself, a submodule in its `belongs-to`
abbrev pub own_prefix : Tree → List ℕ
own_prefix root =
    if is_module root then child_name word.Prefix root else prefix_in (child word.BelongsTo root)

-- all statements in a block and below, those of extensions and inside them too
abbrev pub all_in : Forest → List Tree
all_in End = []
all_in (Then h c o) = record { head = h; children = c } ∷ (all_in c ++ all_in o)

-- a name has no prefix but the file's own
abbrev pub is_own : (own : List ℕ) → Option (List ℕ) → Bool
is_own own None = true
is_own own (Some prefix) = bytes_eq prefix own

-- a statement with this keyword has a name as argument, plain or with the file's own prefix
abbrev pub is_use : Keyword → (own name : List ℕ) → Tree → Bool
is_use k own name t =
    has_keyword k t
    && (is_own own (prefix_of (tree_name t)) && bytes_eq (local_of (tree_name t)) name)

-- a statement with this keyword isn't at the top
abbrev pub is_nested : Keyword → Place → Bool
is_nested k p = has_keyword k p.statement && not p.is_top

-- a statement that isn't at the top defines what no statement in the same block, or below, uses
abbrev pub is_unused : (definition use_of_it : Keyword) → (own : List ℕ) → Place → Bool
is_unused definition use_of_it own p =
    is_nested definition p
    && not (list_any (is_use use_of_it own (tree_name p.statement)) (all_in p.parent.children))
