-- Only private clauses cite this: the places of augments that add to no node, one by one.
use Rattle.std.specs.Prelude.{ℕ, ◌+◌, List, [], ◌∷◌, Option, Some, None}
use Rattle.yv_expand_rounds.specs.declared.label.Label.{Label}
use Rattle.yv_expand_rounds.specs.declared.end.End.{End}
use Rattle.yv_expand_rounds.specs.Paths.{lesser}
use Rattle.yv_expand_rounds.specs.Turns.{target_of}

-- a place, if nothing is there
abbrev pub place_without : Option ℕ → Option ℕ → Option ℕ
place_without None place = place
place_without (Some target) place = None

-- the least place, from the numbered augment on
abbrev pub least_from : List Label → List (Option End) → ℕ → List (Option ℕ) → Option ℕ
least_from labels ends k [] = None
least_from labels ends k (place ∷ places) =
    lesser (place_without (target_of labels ends k) place) (least_from labels ends (k + 1) places)
