-- Where statements are.
use Rattle.std.specs.Prelude.{ℕ, Option}
use Rattle.yv_link_definitions.specs.Lookups.{lookup_in}
use Rattle.yv_link_definitions.specs.declared.place_list.PlaceList.{PlaceList}

-- the number of the first statement of a list that is at an offset of a file
abbrev pub placed_in : PlaceList → ℕ → ℕ → Option ℕ
placed_in list = lookup_in list.places.items
