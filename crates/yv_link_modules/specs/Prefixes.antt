-- Prefixes, and where they are declared (RFC 7950, sections 6.2.1 and 7.1.4).
use Rattle.std.specs.Prelude.{ℕ, ◌==◌, ◌&&◌, ◌||◌, not, Bool, false, is_none, List, [], ◌∷◌, Option, Some, None, codes}
use Rattle.std.specs.List.{list_any, slice_split}
use Rattle.std.specs.Str.{bytes_eq}
use Rattle.yv_text_statement.specs.Tree.{Head}
use Rattle.yv_link_scopes.specs.Names.{prefix_of}
use Rattle.yv_link_scopes.specs.Files.{has_word}
use Rattle.yv_link_scopes.specs.Rows.{Row, name_in}
use Rattle.yv_link_scopes.specs.Tables.{Table}
use Rattle.yv_link_modules.specs.Links.{is_at}

-- where words end: at a blank, a parenthesis or a slash
abbrev pub is_cut : ℕ → Bool
is_cut b =
    (b == 32) || ((b == 9) || ((b == 13) || ((b == 10) || ((b == 40) || ((b == 41) || (b == 47))))))

-- a prefix is there, and the file doesn't declare it
abbrev pub is_undeclared : Table → ℕ → Option (List ℕ) → Bool
is_undeclared prefixes file None = false
is_undeclared prefixes file (Some prefix) = is_none (prefixes file prefix)

-- a word of the text has a prefix that the file doesn't declare
abbrev pub has_undeclared : Table → ℕ → List ℕ → Bool
has_undeclared prefixes file text =
    list_any (λ word. is_undeclared prefixes file (prefix_of word)) (slice_split is_cut text)

-- the statements whose arguments have names with prefixes
unfoldable pub has_names : Head → Bool
has_names h =
    list_any (λ word. bytes_eq h.keyword word)
    (codes "type" ∷ codes "uses" ∷ codes "base" ∷ codes "if-feature"
    ∷ codes "augment" ∷ codes "refine" ∷ codes "key" ∷ codes "unique" ∷ codes "path" ∷ [])

-- an extension's keyword, or a name in the argument, has a prefix that the file doesn't declare
abbrev pub is_unknown : Table → Row → Bool
is_unknown prefixes r =
    is_undeclared prefixes r.file (prefix_of r.head.keyword)
    || (has_names r.head && has_undeclared prefixes r.file (name_in r))

-- a prefix that an earlier statement of the file declares
abbrev pub is_second : Table → ℕ → Row → Bool
is_second prefixes k r =
    has_word (codes "prefix") r.head && not (is_at k (prefixes r.file (name_in r)))
