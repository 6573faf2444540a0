-- Only private clauses cite this: what is known of sequences of refines, one by one.
use Rattle.std.specs.Prelude.{ℕ, List, Option, Some, None, slice_index_or}

-- what is known of a sequence, where this is known of each, and the other value where there is none
abbrev pub known_of : {A : Type 0} → List A → Option ℕ → (none : A) → A
known_of known None none = none
known_of known (Some n) none = slice_index_or known n none
