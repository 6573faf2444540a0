-- The order of the items of one place (RFC 7950, section 7.17).
use Rattle.std.specs.Prelude.{ℕ, Bool, false, List, Option, Some, None, slice_get}
use Rattle.std.specs.Ordering.{bool_cmp, nat_cmp, ordering_then}
use Rattle.std.specs.declared.cmp.Ordering.{Ordering}
use Rattle.yv_expand_rounds.specs.declared.label.Label.{Label}

-- an item is there and an augment gives it
abbrev pub is_some_given : Option Label → Bool
is_some_given None = false
is_some_given (Some l) = l.given

-- an augment of a module gives the item
abbrev pub is_given : List Label → ℕ → Bool
is_given labels i = is_some_given (slice_get labels i)

-- which of two items of one place comes first: what no augment of a module gives comes before what
-- such an augment gives, and of two such items the one with the lesser number comes first
abbrev pub sibling_cmp : List Label → ℕ → ℕ → Ordering
sibling_cmp labels i j =
    ordering_then (bool_cmp (is_given labels i) (is_given labels j)) (nat_cmp i j)
