-- Values, or none, at each of many places.
use Rattle.std.specs.Prelude.{ℕ, List, Option, slice_get}
use Rattle.std.specs.Option.{option_and_then}

-- the value at a place, if there is one; past the last there is none
abbrev pub at : {T : Type 0} → List (Option T) → ℕ → Option T
at slots place = option_and_then (λ value. value) (slice_get slots place)
