-- What holds when the items of a block have entered a group.
use Rattle.std.specs.Prelude.{◌≡◌, ℕ, ◌<◌, ◌≤◌, Bool, List, []}
use Rattle.yv_expand_rounds.specs.declared.label.Label.{Label}
use Rattle.yv_expand_rounds.specs.Groups.{members_of}
use Rattle.yv_expand_rounds.specs.Turns.{State}
use Rattle.yv_expand_definition.specs.Nodes.{Forest}
use Rattle.yv_expand_laws.specs.Blocks.{Block, enter_block}
use Rattle.yv_expand_laws.specs.Comes.{Comes, HasMarks, MarksBlock}
use Rattle.yv_expand_laws.specs.Frames.{Frame, MayEnter, StandFrom}
use Rattle.yv_expand_laws.specs.Layout.{Lie, Spot, placed_on}
use Rattle.yv_expand_laws.specs.Shows.{Items, Shows}

-- all else is as it was
abbrev pub BlockKeeps : List Label → Type 0
BlockKeeps labels =
    (g lo hi c e : ℕ) (block : Block lo hi c e) (st : State) → MayEnter labels g lo hi c e st
    → Frame labels g lo hi c e st (enter_block labels g block st)
    × StandFrom lo (enter_block labels g block st)

-- they show what the block gives
abbrev pub BlockShows : List Label → Items → (mark : ℕ → Bool) → Type 0
BlockShows labels its mark =
    (g lo hi c e : ℕ) (block : Block lo hi c e) (st : State) (f : Forest)
    → Comes labels its _ _ _ _ block f → MarksBlock labels its.given mark g block
    → MayEnter labels g lo hi c e st → ((x : ℕ) → lo < x → x ≤ hi → members_of st.groups x ≡ [])
    → HasMarks its.given mark st
    → Shows its (enter_block labels g block st).groups g lo hi f

-- what is placed of spots that lie in a block is what is known of the block
abbrev pub SpotsEnter : List Label → Type 0
SpotsEnter labels =
    (g lo hi c e : ℕ) (block : Block lo hi c e) (spots : List Spot) (st : State)
    → Lie labels g block spots
    → placed_on labels lo spots st ≡ enter_block labels g block st
