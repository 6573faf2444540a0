-- What the substatements of a `type` statement leave of the type that it names (RFC 7950, sections
-- 9.2.4, 9.3.4, 9.4.4 to 9.4.6 and 9.8.1). One that is refused takes nothing away and adds nothing.
use Rattle.std.specs.Prelude.{◌≡◌, ℕ, ◌⊎◌, List, [], ◌∷◌, ◌++◌, Bool, true, codes, Option, Some, None, is_some, option_to_list}
use Rattle.std.specs.List.{find}
use Rattle.std.specs.Str.{bytes_eq}
use Rattle.yv_text_statement.specs.Tree.{Tree, trees, name_of}
use Rattle.yv_base_numbers.specs.Intervals.{Interval}
use Rattle.yv_base_numbers.specs.Restrictions.{Restricts}
use Rattle.yv_pattern.specs.Spells.{Translates}
use Rattle.yv_values.specs.Types.{Plain, Test, wholes, decimals, strings, octets}

-- a statement has this keyword
abbrev pub has_word : List ℕ → Tree → Bool
has_word word t = bytes_eq t.head.keyword word

-- the first substatement with a keyword
abbrev pub child : List ℕ → Tree → Option Tree
child word t = find (has_word word) (trees t.children)

-- the text doesn't restrict a type of these intervals
abbrev pub IsNoRestriction : Option ℕ → List Interval → List ℕ → Type 0
IsNoRestriction digits base text = (is : List Interval) → Restricts digits base text is → ⊥

-- the intervals that a `range` or a `length` leaves; all where there is none, or none that
-- restricts them
abbrev pub Leaves : Option ℕ → List Interval → Option Tree → List Interval → Type 0
Leaves digits base None is = is ≡ base
Leaves digits base (Some c) is =
    Restricts digits base (name_of c.head) is
    ⊎ (IsNoRestriction digits base (name_of c.head) × (is ≡ base))

-- the text is outside the dialect
abbrev pub IsOutside : List ℕ → Type 0
IsOutside text = (source : List ℕ) → Translates text source → ⊥

-- the test that a substatement is: a `pattern` in the dialect, inverted where it has a `modifier`
abbrev pub IsTest : Tree → Option Test → Type 0
IsTest c None = has_word (codes "pattern") c ≡ true → IsOutside (name_of c.head)
IsTest c (Some test) =
    (has_word (codes "pattern") c ≡ true)
    × Translates (name_of c.head) test.source
    × (test.inverted ≡ is_some (child (codes "modifier") c))

-- the tests that substatements are, in order
abbrev pub AreTests : List Tree → List Test → Type 0
AreTests [] tests = tests ≡ []
AreTests (c ∷ cs) tests =
    (first : Option Test) × (others : List Test)
    × IsTest c first × AreTests cs others × (tests ≡ option_to_list first ++ others)

-- What is left of a type: fewer numbers, fewer lengths, more tests. The `length` of a string counts
-- characters, that of a binary octets.
abbrev pub Narrows : Tree → Plain → Plain → Type 0
Narrows t (wholes is_text is) q =
    (js : List Interval) × Leaves None is (child (codes "range") t) js × (q ≡ wholes is_text js)
Narrows t (decimals digits is) q =
    (js : List Interval) × Leaves (Some digits) is (child (codes "range") t) js
    × (q ≡ decimals digits js)
Narrows t (strings lengths tests) q =
    (left : List Interval) × (more : List Test)
    × Leaves None lengths (child (codes "length") t) left
    × AreTests (trees t.children) more
    × (q ≡ strings left (tests ++ more))
Narrows t (octets lengths) q =
    (left : List Interval) × Leaves None lengths (child (codes "length") t) left × (q ≡ octets left)
Narrows t p q = q ≡ p
