-- Inner definitions: how a `PathTree` keeps paths. Public clauses cite `IsPathTree`, `IsAdded` and
-- `HoldsPaths` alone.
use Rattle.std.specs.Prelude.{◌≡◌, ℕ, ◌<◌, ◌≤◌, List, [], length, Option, Some, None, slice_get, vec_capacity, vec_len}
use Rattle.std.specs.Ordering.{nat_cmp, ordering_then}
use Rattle.std.specs.BTreeMap.{get}
use Rattle.std.specs.declared.alloc.Global.{Global}
use Rattle.std.specs.declared.cmp.Ordering.{Ordering}
use Rattle.std.specs.declared.vec.Vec.{Vec}
use Rattle.yv_base_tables.specs.Fronts.{GoesOn, HaveFronts, IsReached, KeepPaths, StandsIn}
use Rattle.yv_base_tables.specs.declared.path_tree.PathTree.{PathTree}

-- a path and one step more
abbrev pub Key : Type 0
Key = ℕ × ℕ

abbrev pub key_cmp : Key → Key → Ordering
key_cmp j k = ordering_then (nat_cmp j.0 k.0) (nat_cmp j.1 k.1)

-- the path that is known to go on from another by a step
abbrev pub known_in : PathTree → (front step : ℕ) → Option ℕ
known_in tree front step = get key_cmp tree.known (front, step)

-- the paths that go on from another
abbrev pub branches_of : Option (Vec ℕ Global) → List ℕ
branches_of None = []
branches_of (Some v) = v.items

abbrev pub branches_in : List (Vec ℕ Global) → (front : ℕ) → List ℕ
branches_in branches front = branches_of (slice_get branches front)

abbrev pub branches_at : PathTree → (front : ℕ) → List ℕ
branches_at tree front = branches_in tree.branches.items front

-- there is room for one more path that goes on from another
abbrev pub HasRoom : List (Vec ℕ Global) → (front : ℕ) → Type 0
HasRoom branches front =
    (row : Vec ℕ Global) → slice_get branches front ≡ Some row → vec_len row < vec_capacity row

-- these are the paths of the tree, by number
pub record IsPathTree (paths : List (List ℕ)) (tree : PathTree) : Type 0 where
  pub fronts : HaveFronts paths
  pub differ : (first second : ℕ) (steps : List ℕ) → slice_get paths first ≡ Some steps
      → slice_get paths second ≡ Some steps → first ≡ second
  pub steps : length tree.steps.items ≡ length paths
  pub branches : length tree.branches.items ≡ length paths
  pub step : (front step path : ℕ) → GoesOn paths front step path
      → slice_get tree.steps.items path ≡ Some step
  pub known : (front step path : ℕ) → known_in tree front step ≡ Some path
      → GoesOn paths front step path
  pub all_known : (front step path : ℕ) → GoesOn paths front step path
      → known_in tree front step ≡ Some path
  pub branch : (front path : ℕ) → StandsIn (branches_at tree front) path
      → (step : ℕ) × GoesOn paths front step path
  pub all_branches : (front step path : ℕ) → GoesOn paths front step path
      → StandsIn (branches_at tree front) path
  pub deepest : (path : ℕ) (steps : List ℕ) → slice_get paths path ≡ Some steps
      → length steps ≤ tree.deepest
  pub reached : IsReached paths tree.deepest

-- the tree has a path of this number more, or had it
pub record IsAdded (paths : List (List ℕ)) (steps : List ℕ) (path : ℕ)
    (now : PathTree) : Type 0 where
  pub all : List (List ℕ)
  pub tree : IsPathTree all now
  pub kept : KeepPaths paths all
  pub at : slice_get all path ≡ Some steps

-- the tree has these paths, by number, and maybe others
pub record HoldsPaths (paths : List (List ℕ)) (now : PathTree) : Type 0 where
  pub all : List (List ℕ)
  pub tree : IsPathTree all now
  pub kept : KeepPaths paths all
