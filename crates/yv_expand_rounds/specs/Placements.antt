-- How items come to be in groups, from the last to the first: at a uses all that comes after it is
-- there, so what its augments' paths meet is there, with what inner augments gave (RFC 7950,
-- section 7.13).
use Rattle.std.specs.Prelude.{◌≡◌, ℕ, ◌+◌, ◌<◌, ◌≤◌, ◌++◌, List, [], ◌∷◌, length, replicate, set, None}
use Rattle.yv_expand_rounds.specs.declared.label.Label.{Label}
use Rattle.yv_expand_rounds.specs.Groups.{Groups, members_of, times}
use Rattle.yv_expand_rounds.specs.Turns.{State, turn}

-- so many items, of which none is in any group, and so many augments, of which none was applied
abbrev pub nothing : (items augments : ℕ) → State
nothing items augments =
    record { groups = replicate (items + 1 + augments) []; ends = replicate augments None }

-- an item enters a group
abbrev pub enter : (item group : ℕ) → State → State
enter i g st =
    record { groups = set st.groups g (members_of st.groups g ++ i ∷ []); ends = st.ends }

-- The items from this number on have entered a group each, from the last to the first, and in
-- between augments had turns.
pub data HaveEntered (labels : List Label) (augments : ℕ) : (first : ℕ) → State → Type 0 where
  none_yet : HaveEntered labels augments (length labels) (nothing (length labels) augments)
  one_turn : {first : ℕ} {st : State} (k start limit : ℕ) (names : List ℕ) → k < augments
      → HaveEntered labels augments first st
      → HaveEntered labels augments first (turn labels k start limit names st)
  one_more : {first : ℕ} {st : State} (group : ℕ) → group < length labels + 1 + augments
      → HaveEntered labels augments (first + 1) st
      → HaveEntered labels augments first (enter first group st)

-- each item is in one group, once, and nothing else is in any
pub record StandOnce (items : ℕ) (groups : Groups) : Type 0 where
  pub once : (i : ℕ) → i < items → times i groups ≡ 1
  pub no_other : (i : ℕ) → items ≤ i → times i groups ≡ 0
