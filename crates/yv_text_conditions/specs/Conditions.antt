-- The statements that need XPath, by kind, and how many there are.
use Rattle.std.specs.Prelude.{ℕ, ◌+◌, Bool, true, false, List, Option, Some, codes, if◌then◌else◌}
use Rattle.std.specs.Str.{bytes_eq}
use Rattle.yv_text_statement.specs.Keywords.{keyword_of, same}
use Rattle.yv_text_statement.specs.Tree.{Forest, End, Then}
use Rattle.yv_text_statement.specs.declared.keyword.Keyword.{Keyword}
use Rattle.yv_text_statement.specs.declared.keyword.Keyword.TheVariants as word
use Rattle.yv_text_grammar.specs.Conditions.{has_predicate}

-- a property of a statement, by its keyword and argument
abbrev pub Property : Type 0
Property = Keyword → Option (List ℕ) → Bool

-- it is a `must` (RFC 7950, section 7.5.3)
abbrev pub is_must : Property
is_must word.Must argument = true
is_must _ argument = false

-- it is a `when` (section 7.21.5)
abbrev pub is_when : Property
is_when word.When argument = true
is_when _ argument = false

-- it is a leafref's path with a predicate (section 9.9.2)
abbrev pub is_filtered_path : Property
is_filtered_path word.Path (Some text) = has_predicate text
is_filtered_path _ argument = false

-- it is the type `instance-identifier` (section 9.13)
abbrev pub is_instance_type : Property
is_instance_type word.Type (Some text) = bytes_eq text (codes "instance-identifier")
is_instance_type _ argument = false

-- 1 for a statement with a property, 0 for another
abbrev pub one_if : Bool → ℕ
one_if has = if has then 1 else 0

-- how many of these statements, at any depth, have a property: an extension's statement has none,
-- and nothing in it is looked at
abbrev pub count_in : Property → Forest → ℕ
count_in has End = 0
count_in has (Then h block others) =
    (if same (keyword_of h.keyword) word.Extended then 0
    else one_if (has (keyword_of h.keyword) h.argument) + count_in has block) + count_in has others
