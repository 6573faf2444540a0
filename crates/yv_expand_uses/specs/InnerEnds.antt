-- Inner definitions: where the items below each item end. Public clauses cite `AreEnds` alone.
use Rattle.std.specs.Prelude.{◌≡◌, ℕ, ◌<◌, Bool, false, List, length, Option, Some, None, slice_index_or}
use Rattle.yv_expand.specs.Tree.{Item}
use Rattle.yv_expand_uses.specs.Ends.{end_at, is_from}

abbrev pub is_from_at : ℕ → Option Item → Bool
is_from_at i None = false
is_from_at i (Some x) = is_from i x

pub record AreEnds (items : List Item) (ends : List ℕ) : Type 0 where
  pub each : length ends ≡ length items
  pub at : (i : ℕ) → i < length items → slice_index_or ends i 0 ≡ end_at items i
