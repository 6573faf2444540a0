-- The prefixes that a file uses (RFC 7950, sections 6.3.1, 6.4 and 7.1.4).
use Rattle.std.specs.Prelude.{ℕ, ◌==◌, ◌||◌, Bool, false, List, [], ◌∷◌, ◌++◌, filter, if◌then◌else◌}
use Rattle.std.specs.Option.{option_to_list}
use Rattle.yv_text_if_feature.specs.Bytes.{colon}
use Rattle.yv_text_if_feature.specs.Names.{is_identifier, is_part}
use Rattle.yv_text_statement.specs.Keywords.{keyword_of}
use Rattle.yv_text_statement.specs.Tree.{Head, Forest, Then, End, Tree, name_of}
use Rattle.yv_text_statement.specs.declared.keyword.Keyword.{Keyword}
use Rattle.yv_text_statement.specs.declared.keyword.Keyword.TheVariants as word
use Rattle.yv_link_scopes.specs.Names.{prefix_of}
use Rattle.yv_link_scopes.specs.Rows.{is_extended}
use Rattle.yv_lint.specs.Statements.{is_one_of}

-- the longest runs of characters of identifiers that have a colon after them, where this run was
-- read before
abbrev pub runs_after : (run : List ℕ) → List ℕ → List (List ℕ)
runs_after run [] = []
runs_after run (b ∷ bs) =
    if is_part b then runs_after (run ++ b ∷ []) bs
    else (if b == colon then run ∷ runs_after [] bs else runs_after [] bs)

-- the identifiers in a text that have a colon after them
abbrev pub prefixes_in : List ℕ → List (List ℕ)
prefixes_in text = filter is_identifier (runs_after [] text)

-- the statements whose arguments have names of other statements in them, or values with prefixes
abbrev pub takes_names : Keyword → Bool
takes_names =
    is_one_of (word.Type ∷ word.Base ∷ word.Uses ∷ word.IfFeature ∷ word.Augment ∷ word.Refine ∷
    word.Key ∷ word.Unique ∷ word.Path ∷ word.Default ∷ word.Must ∷ word.When ∷ [])

-- the prefix of a keyword, if it has one: then it is an extension's
abbrev pub keyword_prefix : List ℕ → List (List ℕ)
keyword_prefix keyword = option_to_list (prefix_of keyword)

-- the prefixes that an argument uses, within an extension's statement or not
abbrev pub argument_prefixes : (within : Bool) → Head → List (List ℕ)
argument_prefixes within h =
    if within || takes_names (keyword_of h.keyword) then prefixes_in (name_of h) else []

-- the prefixes that the statements of a block use, and all below them; an extension's statement is
-- within itself
abbrev pub used_in : (within : Bool) → Forest → List (List ℕ)
used_in within End = []
used_in within (Then h c o) =
    let below : Bool = within || is_extended h.keyword in
    (keyword_prefix h.keyword ++ argument_prefixes below h)
    ++ (used_in below c ++ used_in within o)

-- the prefixes that a file uses
abbrev pub used_prefixes : Tree → List (List ℕ)
used_prefixes root = used_in false (Then root.head root.children End)
