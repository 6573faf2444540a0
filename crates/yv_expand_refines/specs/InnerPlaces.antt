-- Only private clauses cite this: the places of items, where most items have none.
use Rattle.std.specs.Prelude.{ℕ, List, [], ◌∷◌, Option, None, replicate}
use Rattle.yv_expand_refines.specs.declared.places.Places.{Places}

-- where there is no list, no item has a place
abbrev pub full_places : (count : ℕ) → List (Option ℕ) → List (Option ℕ)
full_places count [] = replicate count None
full_places count (place ∷ places) = place ∷ places

abbrev pub places_in : Places → List (Option ℕ)
places_in p = full_places p.count p.given.items
