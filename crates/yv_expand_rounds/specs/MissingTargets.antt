-- Augments that add to no node: their path leads nowhere, or ends where no augment may add (RFC
-- 7950, section 7.17).
use Rattle.std.specs.Prelude.{◌≡◌, ℕ, ◌≤◌, List, Option, Some, None, slice_get}
use Rattle.yv_expand_rounds.specs.declared.label.Label.{Label}
use Rattle.yv_expand_rounds.specs.declared.end.End.{End}
use Rattle.yv_expand_rounds.specs.Turns.{target_of}

-- the numbered augment is asked, at this place, and adds to no node
pub record HasNoTarget (labels : List Label) (ends : List (Option End)) (places : List (Option ℕ))
    (k place : ℕ) : Type 0 where
  pub at : slice_get places k ≡ Some (Some place)
  pub untargeted : target_of labels ends k ≡ None

-- the least place of such an augment; none where there is no such augment
abbrev pub IsFirstWithoutTarget : List Label → List (Option End) → List (Option ℕ) → Option ℕ
    → Type 0
IsFirstWithoutTarget labels ends places None =
    (k place : ℕ) → HasNoTarget labels ends places k place → ⊥
IsFirstWithoutTarget labels ends places (Some first) =
    ((k : ℕ) × HasNoTarget labels ends places k first)
    × ((k place : ℕ) → HasNoTarget labels ends places k place → first ≤ place)
