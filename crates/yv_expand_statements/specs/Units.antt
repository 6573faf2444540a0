-- What statements count, before any is expanded.
use Rattle.std.specs.Prelude.{ℕ, List, [], ◌∷◌, Option, Some, None, codes, if◌then◌else◌, min}
use Rattle.yv_text_statement.specs.Words.{is_among}

-- a schema node each (RFC 7950, section 3), and a uses, which counts one besides the nodes of its
-- grouping; a case that is left out (section 7.9.2) isn't counted
abbrev pub nodes : List (List ℕ)
nodes =
    codes "container" ∷ codes "leaf" ∷ codes "leaf-list" ∷ codes "list" ∷ codes "choice"
    ∷ codes "case" ∷ codes "anydata" ∷ codes "anyxml"
    ∷ codes "notification" ∷ codes "uses" ∷ []

-- a schema node with those for its input and its output, which are there in any case (sections 7.14
-- and 7.15)
abbrev pub operations : List (List ℕ)
operations = codes "rpc" ∷ codes "action" ∷ []

-- none itself, but what is in its block counts
abbrev pub keywords_passed : List (List ℕ)
keywords_passed = codes "input" ∷ codes "output" ∷ codes "augment" ∷ []

-- what a statement of a keyword counts by itself; none where neither it nor what is in it counts
unfoldable pub units_of : List ℕ → Option ℕ
units_of word =
    if is_among nodes word then Some 1
    else if is_among operations word then Some 3
    else if is_among keywords_passed word then Some 0
    else None

-- the greatest number that is known
abbrev pub saturate : ℕ → ℕ
saturate n = min n 18446744073709551615
