-- Statements by their places, among some that are listed.
use Rattle.std.specs.Prelude.{ℕ, ◌==◌, ◌&&◌, Bool, List, Option}
use Rattle.std.specs.List.{find}
use Rattle.std.specs.Option.{option_map}
use Rattle.yv_link_definitions.specs.declared.place.Place.{Place}

-- a place is this one
abbrev pub is_there : ℕ → ℕ → Place → Bool
is_there file offset p = (p.file == file) && (p.offset == offset)

-- the number of the first that is at an offset of a file
abbrev pub lookup_in : List Place → ℕ → ℕ → Option ℕ
lookup_in places file offset = option_map (λ p. p.number) (find (is_there file offset) places)
