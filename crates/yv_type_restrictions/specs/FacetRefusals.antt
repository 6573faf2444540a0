-- What is wrong with the restrictions of a `type` statement.
use Rattle.std.specs.Prelude.{◌≡◌, ℕ, ◌⊎◌, List, length, true, codes, slice_get, Option, Some, None}
use Rattle.yv_text_statement.specs.Order.{Stands, Among, refusal_at}
use Rattle.yv_text_statement.specs.Tree.{Tree, trees, name_of}
use Rattle.yv_text_statement.specs.declared.refusal.Refusal.{Refusal}
use Rattle.yv_text_statement.specs.declared.refusal.Code.TheVariants as code
use Rattle.yv_base_numbers.specs.Intervals.{Interval}
use Rattle.yv_pattern.specs.Spells.{Translates}
use Rattle.yv_values.specs.Types.{Plain, wholes, decimals, strings, octets}
use Rattle.yv_type_restrictions.specs.Facets.{child, has_word, IsOutside, IsNoRestriction}

-- a `range` or a `length`, where there is one, doesn't restrict a type of these intervals
abbrev pub BadRestriction : ℕ → Option ℕ → List Interval → Option Tree → Refusal → Type 0
BadRestriction file digits base None f = ⊥
BadRestriction file digits base (Some c) f =
    Stands (IsNoRestriction digits base (name_of c.head))
    (refusal_at code.BadRestriction file c.head) f

-- a substatement is a `pattern` outside the dialect
abbrev pub BadPattern : ℕ → Tree → Refusal → Type 0
BadPattern file c f =
    Stands ((has_word (codes "pattern") c ≡ true) × IsOutside (name_of c.head))
    (refusal_at code.BadPattern file c.head) f

-- one of these statements is
abbrev pub BadPatterns : ℕ → List Tree → Refusal → Type 0
BadPatterns file cs f = Among cs (λ k. BadPattern file) (length cs) f

-- what is wrong with the restrictions of a type statement, by the type that it names
abbrev pub BadFacets : ℕ → Tree → Plain → Refusal → Type 0
BadFacets file t (wholes is_text is) f = BadRestriction file None is (child (codes "range") t) f
BadFacets file t (decimals digits is) f =
    BadRestriction file (Some digits) is (child (codes "range") t) f
BadFacets file t (strings lengths tests) f =
    BadRestriction file None lengths (child (codes "length") t) f
    ⊎ BadPatterns file (trees t.children) f
BadFacets file t (octets lengths) f = BadRestriction file None lengths (child (codes "length") t) f
BadFacets file t p f = ⊥

-- a statement is a `pattern` in the dialect
abbrev pub IsPattern : Tree → Type 0
IsPattern c =
    (source : List ℕ) × (has_word (codes "pattern") c ≡ true) × Translates (name_of c.head) source

-- one of these statements is
abbrev pub HasPattern : List Tree → Type 0
HasPattern cs = (k : ℕ) × (c : Tree) × (slice_get cs k ≡ Some c) × IsPattern c
