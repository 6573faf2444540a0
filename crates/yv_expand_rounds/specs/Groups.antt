-- Which items are where, as augments are applied.
use Rattle.std.specs.Prelude.{ℕ, ◌+◌, ◌<◌, ◌==◌, ◌++◌, List, [], length, set, slice_index_or, sum_by, count_by}
use Rattle.yv_expand_rounds.specs.declared.label.Label.{Label}

-- The items of each group, by their numbers. Group 0 is the top, and group i + 1 has what is below
-- item i; what a uses gives is in the group of the uses itself. Behind these each numbered augment
-- has a group of its own.
abbrev pub Groups : Type 0
Groups = List (List ℕ)

-- the group of what the numbered augment gives, until it is applied
abbrev pub group_of_augment : List Label → ℕ → ℕ
group_of_augment labels k = length labels + 1 + k

-- the items in a group, in order
abbrev pub members_of : Groups → ℕ → List ℕ
members_of groups g = slice_index_or groups g []

-- the items of one group become items of another
abbrev pub move_items : (from to : ℕ) → Groups → Groups
move_items from to groups =
    set (set groups to (members_of groups to ++ members_of groups from)) from []

-- how often an item is in groups
abbrev pub times : (item : ℕ) → Groups → ℕ
times item groups = sum_by (λ members. count_by (λ i. i == item) members) groups

-- an item is in a group
abbrev pub IsIn : (item group : ℕ) → Groups → Type 0
IsIn item g groups = 0 < count_by (λ i. i == item) (members_of groups g)
