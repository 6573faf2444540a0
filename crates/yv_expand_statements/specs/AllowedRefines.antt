-- Which statements may refine which nodes (RFC 7950, section 7.13.2).
use Rattle.std.specs.Prelude.{ℕ, ◌&&◌, ◌||◌, nat_le, Bool, false, List, [], ◌∷◌, if◌then◌else◌, Option, Some, None, codes, count_by}
use Rattle.std.specs.List.{list_all}
use Rattle.std.specs.Str.{bytes_eq}
use Rattle.yv_text_statement.specs.Tree.{Tree, trees}
use Rattle.yv_text_statement.specs.Words.{is_among}
use Rattle.yv_link_scopes.specs.Files.{has_word}
use Rattle.yv_link_scopes.specs.Rows.{Row, is_extended}

-- the nodes that may have a default (RFC 7950, section 7.13.2)
abbrev pub with_default : List (List ℕ)
with_default = codes "leaf" ∷ codes "leaf-list" ∷ codes "choice" ∷ []

-- those that may be mandatory
abbrev pub with_mandatory : List (List ℕ)
with_mandatory = codes "leaf" ∷ codes "choice" ∷ codes "anydata" ∷ codes "anyxml" ∷ []

-- those that may have a presence
abbrev pub with_presence : List (List ℕ)
with_presence = codes "container" ∷ []

-- those that may have bounds on their entries
abbrev pub with_elements : List (List ℕ)
with_elements = codes "list" ∷ codes "leaf-list" ∷ []

-- the statements with these bounds
abbrev pub element_limits : List (List ℕ)
element_limits = codes "min-elements" ∷ codes "max-elements" ∷ []

-- what any node may get
abbrev pub of_any_node : List (List ℕ)
of_any_node = codes "config" ∷ codes "description" ∷ codes "reference" ∷ codes "if-feature" ∷ []

-- a statement of a keyword may refine a node of a keyword; an extension's statement may refine any
unfoldable pub is_allowed : (word target_word : List ℕ) → Bool
is_allowed word target_word =
    if bytes_eq word (codes "default") then is_among with_default target_word
    else if bytes_eq word (codes "mandatory") then is_among with_mandatory target_word
    else if bytes_eq word (codes "presence") then is_among with_presence target_word
    else if is_among element_limits word then is_among with_elements target_word
    else is_among of_any_node word || is_extended word

-- a node of a keyword may have so many defaults: a leaf-list any number, others one
abbrev pub may_have : (target_word : List ℕ) → (defaults : ℕ) → Bool
may_have target_word defaults = bytes_eq target_word (codes "leaf-list") || nat_le defaults 1

-- a refine is fit for a node of a keyword: each statement in its block is allowed there, and of
-- defaults no more than it may have
abbrev pub is_fit : (target_word : List ℕ) → Tree → Bool
is_fit target_word t =
    list_all (λ c. is_allowed c.head.keyword target_word) (trees t.children)
    && may_have target_word (count_by (λ c. has_word (codes "default") c.head) (trees t.children))

-- a refine allows this substatement for a node of this statement
abbrev pub is_some_fit : Option Row → Option Tree → Bool
is_some_fit None t = false
is_some_fit (Some r) None = false
is_some_fit (Some r) (Some t) = is_fit r.head.keyword t
