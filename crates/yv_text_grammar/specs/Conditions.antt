-- What isn't supported: what needs XPath, which an option may skip, and what no option lets pass.
use Rattle.std.specs.Prelude.{ℕ, Bool, true, false, not, ◌&&◌, ◌||◌, ◌==◌, List, [], ◌∷◌, Option, Some, codes, if◌then◌else◌}
use Rattle.std.specs.List.{list_any}
use Rattle.std.specs.Str.{bytes_eq}
use Rattle.yv_text_grammar.specs.Bytes.{closing_bracket, opening_bracket, opening_parenthesis}
use Rattle.yv_text_statement.specs.declared.keyword.Keyword.{Keyword}
use Rattle.yv_text_statement.specs.declared.keyword.Keyword.TheVariants as word
use Rattle.yv_text_grammar.specs.declared.xpath.Xpath.{Xpath}
use Rattle.yv_text_grammar.specs.declared.xpath.Xpath.TheVariants.{Refuse, Skip}

-- conditions are refused
abbrev pub is_refusal : Xpath → Bool
is_refusal Refuse = true
is_refusal Skip = false

-- a byte is in a text
abbrev pub has_byte : ℕ → List ℕ → Bool
has_byte b text = list_any (λ x. x == b) text

-- whether the next byte is after a `[` with no `]` between, by whether this one is
abbrev pub is_inside_after : Bool → ℕ → Bool
is_inside_after is_inside b =
    if b == opening_bracket then true else (if b == closing_bracket then false else is_inside)

-- a path has a function: a `(` that is not between a `[` and the next `]`
abbrev pub has_function_from : (is_inside : Bool) → List ℕ → Bool
has_function_from is_inside [] = false
has_function_from is_inside (b ∷ bs) =
    (b == opening_parenthesis && not (is_inside && has_byte closing_bracket bs))
    || has_function_from (is_inside_after is_inside b) bs

-- so from the front of a path
abbrev pub has_function : List ℕ → Bool
has_function text = has_function_from false text

-- a path has a predicate: there is a `[`
abbrev pub has_predicate : List ℕ → Bool
has_predicate text = has_byte opening_bracket text

-- a statement, by its keyword and argument, needs XPath: `must`, `when`, a path with a predicate
-- (RFC 7950, section 9.9.2), and the type `instance-identifier` (section 9.13)
abbrev pub is_condition : Keyword → Option (List ℕ) → Bool
is_condition word.Must argument = true
is_condition word.When argument = true
is_condition word.Path (Some text) = has_predicate text
is_condition word.Type (Some text) = bytes_eq text (codes "instance-identifier")
is_condition keyword argument = false

-- a statement is never supported: deviations, and a path with a function
abbrev pub is_beyond : Keyword → Option (List ℕ) → Bool
is_beyond word.Deviation argument = true
is_beyond word.Deviate argument = true
is_beyond word.Path (Some text) = has_function text
is_beyond keyword argument = false

-- a statement isn't supported
abbrev pub is_unsupported : Xpath → Keyword → Option (List ℕ) → Bool
is_unsupported x keyword argument =
    is_beyond keyword argument || (is_refusal x && is_condition keyword argument)
