-- Only private clauses cite this: what an index knows of the items before.
use Rattle.std.specs.Prelude.{◌≡◌, ◌↔◌, ℕ, ◌+◌, ◌<◌, length, List, [], ◌∷◌, ◌++◌, Option, Some}
use Rattle.std.specs.List.{slice_index_or}
use Rattle.serde_json.specs.Data.{Data}
use Rattle.yv_nodes.specs.declared.node.NodeId.{NodeId}
use Rattle.yv_values.specs.Pairs.{Keeps, Pair}
use Rattle.yv_values.specs.Values.{Val}
use Rattle.yv_validate.specs.Repeats.{first_same, repeat_of}

-- it keeps each tuple of these items with the number of the first item that has it
pub record Remembers (is : List Pair) (f : Data → Option (List Val))
    (before : List Data) : Type 0 where
  pub each : (vs : List Val) (q : ℕ) → Keeps is vs q ↔ (first_same f vs 1 before ≡ Some q)

-- where an item's tuple was first, and what the index knows then, whatever it is that it knew; the
-- item has this number
pub record Tells (old new : List Pair) (tuple : Option (List Val)) (place : ℕ)
    (first : Option ℕ) : Type 0 where
  pub same : (f : Data → Option (List Val)) (before : List Data) (d : Data) → Remembers old f before
      → f d ≡ tuple → first ≡ repeat_of f before d
  pub next : (f : Data → Option (List Val)) (before : List Data) (d : Data)
      → length before + 1 ≡ place → Remembers old f before → f d ≡ tuple
      → Remembers new f (before ++ d ∷ [])

-- one index for each statement
pub record RemembersEach (is : List (List Pair))
    (f : List (Option NodeId) → Data → Option (List Val)) (us : List (List (Option NodeId)))
    (before : List Data) : Type 0 where
  pub same : length is ≡ length us
  pub each : (i : ℕ) → i < length us
      → Remembers (slice_index_or is i []) (f (slice_index_or us i [])) before
