-- Arguments that say something else than they seem to.
use Rattle.std.specs.Prelude.{ℕ, ◌==◌, ◌&&◌, ◌||◌, not, nat_lt, Bool, true, false, List, [], ◌∷◌, reverse, Option, Some, None, if◌then◌else◌}
use Rattle.std.specs.Option.{option_and_then}
use Rattle.yv_text_grammar.specs.Texts.{is_number, decimal_after}
use Rattle.yv_text_statement.specs.Tree.{Tree}
use Rattle.yv_text_statement.specs.declared.keyword.Keyword.{Keyword}
use Rattle.yv_text_statement.specs.declared.keyword.Keyword.TheVariants as word
use Rattle.yv_link_scopes.specs.Files.{tree_name}
use Rattle.yv_lint.specs.Statements.{keyword_at, has_keyword, child}

-- an even number of backslashes (92) comes first
abbrev pub begins_evenly : List ℕ → Bool
begins_evenly [] = true
begins_evenly (b ∷ bs) = if b == 92 then not (begins_evenly bs) else true

-- a text, given from its end on, ends with a `$` (36) that no backslash escapes
abbrev pub begins_with_dollar : List ℕ → Bool
begins_with_dollar [] = false
begins_with_dollar (b ∷ bs) = b == 36 && begins_evenly bs

-- a text begins with `^` (94)
abbrev pub begins_with_caret : List ℕ → Bool
begins_with_caret [] = false
begins_with_caret (b ∷ bs) = b == 94

-- a pattern begins with `^`, or ends with `$`; patterns match whole values, and these are plain
-- characters in them (RFC 7950, section 9.4.5)
abbrev pub is_anchored : List ℕ → Bool
is_anchored text = begins_with_caret text || begins_with_dollar (reverse text)

-- a statement is a pattern that seems to be anchored
abbrev pub has_anchor : Tree → Bool
has_anchor t = has_keyword word.Pattern t && is_anchored (tree_name t)

-- the number of 32 bits that an argument writes, if it writes one
abbrev pub number_of : List ℕ → Option ℕ
number_of text = if is_number 0 4294967295 text then Some (decimal_after 0 text) else None

-- one number is above another, where both are there
abbrev pub is_above : Option ℕ → Option ℕ → Bool
is_above (Some low) (Some high) = nat_lt high low
is_above _ _ = false

-- a statement's number, if it is there and has one
abbrev pub number_at : Option Tree → Option ℕ
number_at t = option_and_then (λ (s : Tree). number_of (tree_name s)) t

-- the statements that say how many entries there may be (RFC 7950, sections 7.7.5, 7.7.6 and
-- 7.13.2)
abbrev pub has_entries : Keyword → Bool
has_entries word.List = true
has_entries word.LeafList = true
has_entries word.Refine = true
has_entries _ = false

-- a statement asks for more entries than it allows
abbrev pub asks_too_many : Tree → Bool
asks_too_many t =
    has_entries (keyword_at t)
    && is_above (number_at (child word.MinElements t)) (number_at (child word.MaxElements t))
