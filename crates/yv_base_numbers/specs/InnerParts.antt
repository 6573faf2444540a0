-- Only private clauses cite this: the parts of a restriction, read one after another.
use Rattle.std.specs.Prelude.{ℕ, List, [], ◌∷◌, Option, Some, None}
use Rattle.yv_base_numbers.specs.RestrictedIntervals.{Interval}

abbrev pub onto : Option Interval → Option (List Interval) → Option (List Interval)
onto None rest = None
onto (Some i) None = None
onto (Some i) (Some is) = Some (i ∷ is)

-- what each text says, where each says something
abbrev pub all_of : (List ℕ → Option Interval) → List (List ℕ) → Option (List Interval)
all_of f [] = Some []
all_of f (t ∷ ts) = onto (f t) (all_of f ts)
