-- Numbered paths, where what a path has before its last step is one of them too.
use Rattle.std.specs.Prelude.{◌≡◌, ℕ, List, [], ◌∷◌, ◌++◌, Some, length, slice_get}

-- the path of a number goes on from that of another by one step
pub record GoesOn (paths : List (List ℕ)) (front step path : ℕ) : Type 0 where
  pub steps : List ℕ
  pub before : slice_get paths front ≡ Some steps
  pub whole : slice_get paths path ≡ Some (steps ++ step ∷ [])

-- the first path alone has no step, and each other goes on from one of them
pub record HaveFronts (paths : List (List ℕ)) : Type 0 where
  pub first : slice_get paths 0 ≡ Some []
  pub alone : (path : ℕ) → slice_get paths path ≡ Some [] → path ≡ 0
  pub front : (path : ℕ) (steps : List ℕ) (step : ℕ)
      → slice_get paths path ≡ Some (steps ++ step ∷ [])
      → (front : ℕ) × GoesOn paths front step path

-- paths keep their numbers
abbrev pub KeepPaths : (old new : List (List ℕ)) → Type 0
KeepPaths old new =
    (path : ℕ) (steps : List ℕ) → slice_get old path ≡ Some steps → slice_get new path ≡ Some steps

-- a number is among these
pub record StandsIn (numbers : List ℕ) (number : ℕ) : Type 0 where
  pub place : ℕ
  pub at : slice_get numbers place ≡ Some number

-- one of the paths has so many steps
pub record IsReached (paths : List (List ℕ)) (count : ℕ) : Type 0 where
  pub path : ℕ
  pub steps : List ℕ
  pub at : slice_get paths path ≡ Some steps
  pub long : length steps ≡ count
