-- Marks on numbered nodes.
use Rattle.std.specs.Prelude.{ℕ, Bool, false, List, slice_index_or}

-- a number has a mark; one past the last has none
abbrev pub is_marked : List Bool → ℕ → Bool
is_marked marks number = slice_index_or marks number false
