-- What YANG 1.1 adds to YANG 1 (RFC 7950, section 1.1), as far as a statement and the one in whose
-- block it is show it.
use Rattle.std.specs.Prelude.{ℕ, ◌&&◌, ◌||◌, not, Bool, true, false, List, [], ◌∷◌, codes}
use Rattle.std.specs.Str.{bytes_eq}
use Rattle.yv_text_if_feature.specs.Tokens.{Token, tokens}
use Rattle.yv_text_if_feature.specs.Tokens as token
use Rattle.yv_text_statement.specs.Tree.{Tree}
use Rattle.yv_text_statement.specs.declared.keyword.Keyword.{Keyword}
use Rattle.yv_text_statement.specs.declared.keyword.Keyword.TheVariants as word
use Rattle.yv_link_scopes.specs.Files.{tree_name}
use Rattle.yv_lint.specs.Statements.{keyword_at, has_keyword, has_one, is_one_of}
use Rattle.yv_lint.specs.Places.{Place}
use Rattle.yv_lint.specs.Versions.{is_newer_file}

-- the root of a file
abbrev pub is_module : Keyword → Bool
is_module = is_one_of (word.Module ∷ word.Submodule ∷ [])

-- an import or an include: these may have a `description` and a `reference`
abbrev pub is_link : Keyword → Bool
is_link = is_one_of (word.Import ∷ word.Include ∷ [])

-- a bit, an enum, an identity or a refine: these may have an `if-feature`
abbrev pub takes_if_feature : Keyword → Bool
takes_if_feature = is_one_of (word.Bit ∷ word.Enum ∷ word.Identity ∷ word.Refine ∷ [])

-- an input, an output or a notification: these may have a `must`
abbrev pub takes_must : Keyword → Bool
takes_must = is_one_of (word.Input ∷ word.Output ∷ word.Notification ∷ [])

-- the words of a condition are one name
abbrev pub is_one_name : List Token → Bool
is_one_name (token.Name n ∷ []) = true
is_one_name _ = false

-- a condition is more than the name of a feature
abbrev pub is_expression : List ℕ → Bool
is_expression text = not (is_one_name (tokens text))

-- a statement is a `type` with this argument
abbrev pub is_type : List ℕ → Tree → Bool
is_type name t = has_keyword word.Type t && bytes_eq (tree_name t) name

-- a statement is a `type` that restricts one with enums or bits: it isn't `enumeration` or `bits`
abbrev pub restricts_names : Tree → Bool
restricts_names t =
    has_keyword word.Type t
    && not (bytes_eq (tree_name t) (codes "enumeration") || bytes_eq (tree_name t) (codes "bits"))

-- a leaf-list may have a `default`, and a refine more than one
abbrev pub is_newer_default : Place → Bool
is_newer_default p = has_keyword word.LeafList p.parent
    || (has_keyword word.Refine p.parent && has_one word.Default p.before)

-- a condition is an expression, or of a statement that had none
abbrev pub is_newer_condition : Place → Bool
is_newer_condition p =
    is_expression (tree_name p.statement) || takes_if_feature (keyword_at p.parent)

-- `empty` is a member of a union
abbrev pub is_newer_type : Place → Bool
is_newer_type p =
    has_keyword word.Type p.parent && bytes_eq (tree_name p.statement) (codes "empty")

-- a statement at a place is of a form that is new, by its keyword
abbrev pub is_newer_form : Keyword → Place → Bool
is_newer_form word.Action p = true
is_newer_form word.Anydata p = true
is_newer_form word.Modifier p = true
is_newer_form word.Notification p = not (is_module (keyword_at p.parent))
is_newer_form word.Choice p = has_keyword word.Choice p.parent
is_newer_form word.IfFeature p = is_newer_condition p
is_newer_form word.Description p = is_link (keyword_at p.parent)
is_newer_form word.Reference p = is_link (keyword_at p.parent)
is_newer_form word.Must p = takes_must (keyword_at p.parent)
is_newer_form word.Base p = has_one word.Base p.before
is_newer_form word.Enum p = restricts_names p.parent
is_newer_form word.Bit p = restricts_names p.parent
is_newer_form word.RequireInstance p = is_type (codes "leafref") p.parent
is_newer_form word.Type p = is_newer_type p
is_newer_form word.Default p = is_newer_default p
is_newer_form _ p = false

-- a statement at a place is one that YANG 1 doesn't have
abbrev pub is_newer : Place → Bool
is_newer p = is_newer_form (keyword_at p.statement) p

-- a statement at a place is newer than its file, which is of version 1
abbrev pub is_too_new : Tree → Place → Bool
is_too_new root p = not (is_newer_file root) && is_newer p
