-- Only private clauses cite this: how many numbers of each place were known.
use Rattle.std.specs.Prelude.{ℕ, ◌+◌, List, set, Option, Some, None, slice_index_or}

abbrev pub count_at : List ℕ → Option ℕ → ℕ
count_at counts None = 0
count_at counts (Some place) = slice_index_or counts place 0

abbrev pub count_more : List ℕ → Option ℕ → List ℕ
count_more counts None = counts
count_more counts (Some place) = set counts place (slice_index_or counts place 0 + 1)
