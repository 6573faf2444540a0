-- The order of the statements at the top of a file (RFC 7950, section 14).
use Rattle.std.specs.Prelude.{ℕ, nat_lt, Bool, ◌&&◌, [], ◌∷◌, if◌then◌else◌}
use Rattle.std.specs.List.{list_any}
use Rattle.yv_text_statement.specs.Tree.{Tree}
use Rattle.yv_text_statement.specs.Keywords.{same}
use Rattle.yv_text_statement.specs.declared.keyword.Keyword.{Keyword}
use Rattle.yv_text_statement.specs.declared.keyword.Keyword.TheVariants as word
use Rattle.yv_lint.specs.Newer.{is_link}
use Rattle.yv_lint.specs.Statements.{is_one_of, keyword_at}
use Rattle.yv_lint.specs.Places.{Place}

-- a statement of the header
abbrev pub is_of_header : Keyword → Bool
is_of_header =
    is_one_of (word.YangVersion ∷ word.Namespace ∷ word.Prefix ∷ word.BelongsTo ∷ [])

-- a meta statement
abbrev pub is_meta : Keyword → Bool
is_meta =
    is_one_of (word.Organization ∷ word.Contact ∷ word.Description ∷ word.Reference ∷ [])

-- The group of a keyword: the header, the linkage, the meta statements, the revisions, and the
-- body. Those of extensions have none, and may be anywhere.
abbrev pub group_of : Keyword → ℕ
group_of k =
    if is_of_header k then 1
    else if is_link k then 2
    else if is_meta k then 3
    else if same k word.Revision then 4
    else if same k word.Extended then 0
    else 5

-- one statement is of a later group than this
abbrev pub is_of_later : ℕ → Tree → Bool
is_of_later group t = nat_lt group (group_of (keyword_at t))

-- a statement at the top comes after one of a later group
abbrev pub is_out_of_order : Place → Bool
is_out_of_order p =
    p.is_top && list_any (is_of_later (group_of (keyword_at p.statement))) p.before
