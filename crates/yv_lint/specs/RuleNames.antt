-- Lists of the names of rules.
use Rattle.std.specs.Prelude.{ℕ, ◌==◌, Bool, List}
use Rattle.std.specs.List.{list_all, list_any, slice_split}
use Rattle.std.specs.Str.{bytes_eq}
use Rattle.yv_lint.specs.declared.rule.Rule.{Rule}
use Rattle.yv_lint.specs.Rules.{all_rules, name_of}

-- the names in a list: what is between commas (44)
abbrev pub names_in : List ℕ → List (List ℕ)
names_in text = slice_split (λ b. b == 44) text

-- a rule has this name
abbrev pub is_name : List ℕ → Bool
is_name name = list_any (λ rule. bytes_eq name (name_of rule)) all_rules

-- each name in a list is a rule's
abbrev pub are_names : List ℕ → Bool
are_names text = list_all is_name (names_in text)

-- a rule is named in a list
abbrev pub is_named : List ℕ → Rule → Bool
is_named text rule = list_any (λ name. bytes_eq name (name_of rule)) (names_in text)
