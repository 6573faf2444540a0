-- Which refines change which items, where items that are changed alike share what changes them.
use Rattle.std.specs.Prelude.{ℕ, List, [], Option, Some, None, map, slice_index_or}

-- runs of refines, sequences that are made of runs, and for each item the place of its sequence, if
-- a refine changes it
pub record ChangesView : Type 0 where
  pub runs : List (List ℕ)
  pub sequences : List (List ℕ)
  pub of : List (Option ℕ)

-- the refines of the sequence at a place; none without one
abbrev pub sequence_at : List (List ℕ) → Option ℕ → List ℕ
sequence_at sequences None = []
sequence_at sequences (Some place) = slice_index_or sequences place []

-- for each item the refines that change it
abbrev pub each : ChangesView → List (List ℕ)
each c = map (sequence_at c.sequences) c.of
