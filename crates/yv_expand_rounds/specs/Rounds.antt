-- The augments of modules are applied in rounds (RFC 7950, section 7.17).
use Rattle.std.specs.Prelude.{◌≡◌, ℕ, zero, suc, ◌+◌, ◌||◌, Bool, false, List, [], ◌∷◌, length, Some, None, slice_get}
use Rattle.yv_expand_rounds.specs.declared.label.Label.{Label}
use Rattle.yv_expand_rounds.specs.declared.end.End.TheVariants as end
use Rattle.yv_expand_rounds.specs.Paths.{path_end}
use Rattle.yv_expand_rounds.specs.Turns.{State, is_applied, turn, is_taken}

-- a round: each augment in order that isn't applied is, if its target is there; their paths begin
-- at the top, and the first has this number
abbrev pub round : List Label → (first : ℕ) → List (List ℕ) → State → State
round labels k [] st = st
round labels k (names ∷ others) st =
    round labels (k + 1) others (turn labels k 0 (length labels) names st)

-- so many rounds, one after the other
abbrev pub rounds : List Label → (first : ℕ) → List (List ℕ) → (count : ℕ) → State → State
rounds labels first paths zero st = st
rounds labels first paths (suc n) st = rounds labels first paths n (round labels first paths st)

-- a round applies one or more
abbrev pub is_any : List Label → (first : ℕ) → List (List ℕ) → State → Bool
is_any labels k [] st = false
is_any labels k (names ∷ others) st =
    is_taken labels k 0 (length labels) names st
    || is_any labels (k + 1) others (turn labels k 0 (length labels) names st)

-- what rounds come to: a round that applies none is the last
pub record AreApplied (labels : List Label) (first : ℕ) (paths : List (List ℕ))
    (old new : State) : Type 0 where
  pub count : ℕ
  pub is : new ≡ rounds labels first paths count old
  pub last : is_any labels first paths new ≡ false

-- the path of an augment that was never applied leads nowhere among what is there at the end
abbrev pub LeadsNowhere : List Label → (first : ℕ) → List (List ℕ) → State → Type 0
LeadsNowhere labels first paths st =
    (k : ℕ) (names : List ℕ) → slice_get paths k ≡ Some names → is_applied st (first + k) ≡ false
    → path_end labels st.groups (length labels) names (end.Start 0) ≡ None
