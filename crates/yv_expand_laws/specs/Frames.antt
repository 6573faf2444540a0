-- What the items of a block leave as it was, when they enter and the augments of their uses have
-- their turns.
use Rattle.std.specs.Prelude.{◌≡◌, ◌≢◌, ℕ, ◌+◌, ◌<◌, ◌≤◌, ◌⊎◌, List, [], ◌++◌, length, None, slice_index_or}
use Rattle.std.specs.List.{Contains}
use Rattle.yv_expand_rounds.specs.declared.label.Label.{Label}
use Rattle.yv_expand_rounds.specs.Groups.{group_of_augment, members_of}
use Rattle.yv_expand_rounds.specs.Turns.{State}

-- Of the items from `lo` to before `hi`, with copies of augments from `c` to before `e`, this isn't
-- a group of their own: neither that below one of the items, nor that of one of the copies.
abbrev pub IsOutside : List Label → (lo hi c e : ℕ) → (group : ℕ) → Type 0
IsOutside labels lo hi c e x =
    ((x ≤ lo) ⊎ (hi < x)) × ((x < group_of_augment labels c) ⊎ (group_of_augment labels e ≤ x))

-- When they have entered a group, that has some of them more, after what it had, and all groups but
-- this and their own have what they had; and of other augments as many were applied as before, to
-- the same ends.
pub record Frame (labels : List Label) (g lo hi c e : ℕ) (old new : State) : Type 0 where
  pub groups : length new.groups ≡ length old.groups
  pub augments : length new.ends ≡ length old.ends
  pub outside : (x : ℕ) → x ≢ g → IsOutside labels lo hi c e x
      → members_of new.groups x ≡ members_of old.groups x
  pub entered : List ℕ
  pub theirs : (i : ℕ) → Contains entered i → (lo ≤ i) × (i < hi)
  pub behind : members_of new.groups g ≡ members_of old.groups g ++ entered
  pub ends : (k : ℕ) → (k < c) ⊎ (e ≤ k)
      → slice_index_or new.ends k None ≡ slice_index_or old.ends k None

-- no item is anywhere before this number
abbrev pub StandFrom : (n : ℕ) → State → Type 0
StandFrom n st = (x i : ℕ) → Contains (members_of st.groups x) i → n ≤ i

-- they may enter this group: all that is anywhere is after them, and none of their augments has
-- given anything or was applied
pub record MayEnter (labels : List Label) (g lo hi c e : ℕ) (st : State) : Type 0 where
  pub room : length st.groups ≡ length labels + 1 + length st.ends
  pub items : hi ≤ length labels
  pub copies : e ≤ length st.ends
  pub group : g < length st.groups
  pub outside : IsOutside labels lo hi c e g
  pub from : StandFrom hi st
  pub fresh : (k : ℕ) → c ≤ k → k < e → members_of st.groups (group_of_augment labels k) ≡ []
  pub waiting : (k : ℕ) → c ≤ k → k < e → slice_index_or st.ends k None ≡ None
