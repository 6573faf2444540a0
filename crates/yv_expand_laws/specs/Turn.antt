-- What one turn of an augment of a uses makes of what is shown.
use Rattle.std.specs.Prelude.{◌≡◌, ◌≢◌, ℕ, ◌+◌, ◌<◌, ◌≤◌, ◌⊎◌, Bool, false, List, length, None, slice_index_or}
use Rattle.std.specs.List.{Contains}
use Rattle.yv_expand_rounds.specs.declared.label.Label.{Label}
use Rattle.yv_expand_rounds.specs.Groups.{group_of_augment, members_of}
use Rattle.yv_expand_rounds.specs.Turns.{State, turn}
use Rattle.yv_expand_definition.specs.Nodes.{Forest, Node, join}
use Rattle.yv_expand_definition.specs.Paths.{Step}
use Rattle.yv_expand_laws.specs.Comes.{HasMarks, Hits, Misses}
use Rattle.yv_expand_laws.specs.Shows.{Agree, Items, Shows}

-- The turn of copy k, whose path begins in group g and leads to what comes before the limit. From
-- `lo` to before `cur` are the items that the uses has so far; all else in its group is after the
-- limit. From `cur` to before `mid` are those of the copy, and no others.
pub record IsTurn (labels : List Label) (its : Items) (mark : ℕ → Bool) (g lo cur mid k limit : ℕ)
    (st : State) : Type 0 where
  pub room : length st.groups ≡ length labels + 1 + length st.ends
  pub items : mid ≤ length labels
  pub copies : k < length st.ends
  pub up : cur ≤ mid
  pub limit_low : cur ≤ limit
  pub outside : (i : ℕ) → lo ≤ i → i < cur → g ≢ i + 1
  pub apart : g ≢ group_of_augment labels k
  pub others : (i : ℕ) → Contains (members_of st.groups g) i
      → ((lo ≤ i) × (i < cur)) ⊎ ((mid ≤ i) × (limit ≤ i))
  pub own : (i : ℕ) → Contains (members_of st.groups (group_of_augment labels k)) i
      → (cur ≤ i) × (i < mid)
  pub marks : HasMarks its.given mark st
  pub own_mark : mark (group_of_augment labels k) ≡ false
  pub below_mark : (x : ℕ) → x ≤ length labels → mark x ≡ false
  pub waits : slice_index_or st.ends k None ≡ None

-- where its path hits a node, what the copy shows comes after what that node has
abbrev pub TurnAdds : List Label → Items → (mark : ℕ → Bool) → Type 0
TurnAdds labels its mark =
    (g lo cur mid k limit : ℕ) (names : List ℕ) (ss : List Step) (st : State)
    (m b below there : Forest) (target : Node)
    → IsTurn labels its mark g lo cur mid k limit st → Agree labels its names ss
    → Shows its st.groups g lo cur m
    → Shows its st.groups (group_of_augment labels k) cur mid b
    → Hits ss m target below (join below b) there
    → Shows its (turn labels k g limit names st).groups g lo mid there

-- where it misses, nothing moves
abbrev pub TurnMisses : List Label → Items → (mark : ℕ → Bool) → Type 0
TurnMisses labels its mark =
    (g lo cur mid k limit : ℕ) (names : List ℕ) (ss : List Step) (st : State) (m : Forest)
    → IsTurn labels its mark g lo cur mid k limit st → Agree labels its names ss
    → Shows its st.groups g lo cur m → Misses ss m
    → (turn labels k g limit names st).groups ≡ st.groups
