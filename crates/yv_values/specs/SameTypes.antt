-- Which types are seen at once to be one type.
use Rattle.std.specs.Prelude.{Bool, true, false, List, [], ◌∷◌}
use Rattle.yv_base_numbers.specs.Intervals.{Interval}
use Rattle.yv_values.specs.Types.{Plain, wholes, strings, booleans, empties}

-- there is one interval
abbrev pub is_one : List Interval → Bool
is_one (i ∷ []) = true
is_one _ = false

-- types of whole numbers with one interval, types of texts with one interval of lengths and without
-- patterns, the truth values, and empty
abbrev pub is_simple : Plain → Bool
is_simple (wholes is_text spans) = is_one spans
is_simple (strings lengths []) = is_one lengths
is_simple booleans = true
is_simple empties = true
is_simple _ = false
