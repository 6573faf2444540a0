-- Inner definitions: how a `Grafting` keeps its state. Public clauses cite `IsGrafting` alone.
use Rattle.std.specs.Prelude.{◌≡◌, ℕ, not, List, Option, count_by}
use Rattle.yv_expand_rounds.specs.declared.label.Label.{Label}
use Rattle.yv_expand_rounds.specs.declared.end.End.{End}
use Rattle.yv_expand_rounds.specs.declared.augmentation.Augmentation.{Augmentation}
use Rattle.yv_expand_rounds.specs.Turns.{State, is_some}
use Rattle.yv_expand_rounds.specs.InnerGroups.{ArePlaces}

-- the items with these labels are so, and the augments have come so far
pub record IsAugmentation (labels : List Label) (st : State)
    (augmentation : Augmentation) : Type 0 where
  pub places : ArePlaces labels st.groups augmentation.places
  pub ends : augmentation.ends.items ≡ st.ends

-- how many augments aren't applied
abbrev pub count_left : List (Option End) → ℕ
count_left ends = count_by (λ e. not (is_some e)) ends
