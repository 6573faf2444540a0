-- Only private clauses cite this: how paths are followed together, and what they meet on the way.
use Rattle.std.specs.Prelude.{◌≡◌, ℕ, ◌<◌, ◌≤◌, ◌==◌, Bool, true, false, List, Some, length, slice_get}
use Rattle.yv_base_tables.specs.Fronts.{GoesOn}
use Rattle.yv_base_tables.specs.InnerTree.{IsPathTree}
use Rattle.yv_expand_rounds.specs.declared.arrivals.Arrival.{Arrival}
use Rattle.yv_expand_rounds.specs.declared.label.Label.{Label}
use Rattle.yv_expand_rounds.specs.declared.end.End.{End}
use Rattle.yv_expand_rounds.specs.declared.end.End.TheVariants as end
use Rattle.yv_base_tables.specs.declared.path_tree.PathTree.{PathTree}
use Rattle.yv_expand_rounds.specs.declared.places.ItemPlaces.{ItemPlaces}
use Rattle.yv_expand_rounds.specs.Groups.{Groups}
use Rattle.yv_expand_rounds.specs.InnerGroups.{ArePlaces}
use Rattle.yv_expand_rounds.specs.Paths.{step_end}

-- a path that ends there has come to this item
abbrev pub is_at : End → (item : ℕ) → Bool
is_at (end.Start g) i = false
is_at (end.Node j) i = j == i
is_at (end.ShorthandCase j) i = j == i

-- one of these items is the one to which a path that ends there has come
pub record IsAmong (items : List ℕ) (e : End) : Type 0 where
  pub place : ℕ
  pub item : ℕ
  pub at : slice_get items place ≡ Some item
  pub is : is_at e item ≡ true

-- among these items is each to which one step leads
abbrev pub AreMet : List Label → Groups → (limit : ℕ) → End → (items : List ℕ) → Type 0
AreMet labels groups limit e items =
    (name : ℕ) (next : End) → step_end labels groups limit e name ≡ Some next → IsAmong items next

-- these have all that the old ones were, in their places, and after them only what is sound, and
-- all that must be found
pub record Gains (Sound Must : Arrival → Type 0) (old new : List Arrival) : Type 0 where
  pub longer : length old ≤ length new
  pub kept : (place : ℕ) (a : Arrival) → slice_get old place ≡ Some a → slice_get new place ≡ Some a
  pub sound : (place : ℕ) (a : Arrival) → length old ≤ place → slice_get new place ≡ Some a
      → Sound a
  pub all : (a : Arrival) → Must a → (place : ℕ) × (slice_get new place ≡ Some a)

-- a path goes on from another by one step, and leads where the step leads
pub record Follows (labels : List Label) (groups : Groups) (limit : ℕ) (paths : List (List ℕ))
    (from next : Arrival) : Type 0 where
  pub step : ℕ
  pub path : GoesOn paths from.path step next.path
  pub leads : step_end labels groups limit from.end step ≡ Some next.end

-- a path that goes on comes to one of the first so many items
pub record Meets (labels : List Label) (groups : Groups) (limit : ℕ) (paths : List (List ℕ))
    (from : Arrival) (items : List ℕ) (count : ℕ) (next : Arrival) : Type 0 where
  pub follows : Follows labels groups limit paths from next
  pub place : ℕ
  pub before : place < count
  pub item : ℕ
  pub at : slice_get items place ≡ Some item
  pub is : is_at next.end item ≡ true

-- a path that goes on is one of the first so many of these
pub record Branches (labels : List Label) (groups : Groups) (limit : ℕ) (paths : List (List ℕ))
    (from : Arrival) (branches : List ℕ) (count : ℕ) (next : Arrival) : Type 0 where
  pub follows : Follows labels groups limit paths from next
  pub place : ℕ
  pub before : place < count
  pub at : slice_get branches place ≡ Some next.path

-- a path goes on from one that was found, between these places
pub record FollowsSome (labels : List Label) (groups : Groups) (limit : ℕ) (paths : List (List ℕ))
    (found : List Arrival) (first behind : ℕ) (next : Arrival) : Type 0 where
  pub place : ℕ
  pub from : Arrival
  pub past : first ≤ place
  pub before : place < behind
  pub at : slice_get found place ≡ Some from
  pub follows : Follows labels groups limit paths from next

-- the paths that go on from one by one step are found, and no others
abbrev pub FindFollowers : (Done : Type 0 → Type 0) → ItemPlaces → PathTree → (limit : ℕ)
    → (from : Arrival) → (old new : List Arrival) → Type 0
FindFollowers Done places paths limit from old new =
    (labels : List Label) (groups : Groups) (all : List (List ℕ)) → ArePlaces labels groups places
    → IsPathTree all paths
    → Done (Gains (Follows labels groups limit all from)
    (Follows labels groups limit all from) old new)
